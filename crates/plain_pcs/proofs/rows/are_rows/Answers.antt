use Rattle.std.proofs.Common.{◌≤◌, ◌∙◌, refl, sym, arith}
use Rattle.std.specs.Int.{IsPowerOfTwo}
use Rattle.p3_matrix.specs.Matrix.{height, row_at}
use Rattle.commit_rows.specs.Batches.{row_in}
use Rattle.plain_pcs.specs.PlainMmcs.{IsRowByEq}
use Rattle.plain_pcs.proofs.Places.{read_all, each_read, one_of_each, below_and_here}
use Rattle.plain_pcs.proofs.Heights.{none_higher, greatest_power, tested_row}
use Rattle.plain_pcs.proofs.rows.are_rows.Goals as goal

pub row_of-requires-clause-power : goal.row_of-requires-clause-power
row_of-requires-clause-power g c = read_all (λ m. IsPowerOfTwo (height m)) c.args.matrices.now c.loop-i.i c.index-matrices-i.result c.loop-i-test.true c.index-matrices-i.is c.requires.powers

pub row_of-requires-clause-most_power : goal.row_of-requires-clause-most_power
row_of-requires-clause-most_power g c = greatest_power c.args.matrices.now c.args.most c.requires.greatest c.requires.powers

pub row_of-requires-clause-not_more : goal.row_of-requires-clause-not_more
row_of-requires-clause-not_more g c = read_all (λ m. height m ≤ c.args.most) c.args.matrices.now c.loop-i.i c.index-matrices-i.result c.loop-i-test.true c.index-matrices-i.is (none_higher c.args.matrices.now c.args.most c.requires.greatest)

pub returns-then-ne : goal.returns-then-ne
returns-then-ne g c =
    let m = c.index-matrices-i.result in
    let row = c.index-rows-i.result in
    let told = tested_row g.T.PartialEq.eq c.as_slice.result.now row.items c.row_of.result.now (row_at m (row_in c.args.most (height m) c.args.index)) c.ne.result
    c.as_slice.ensures.value c.row_of.ensures.values c.ne.ensures in (
      λ e. absurd (cc),
      λ each. sym (told.1 (one_of_each c.args.matrices.now c.args.rows.now (λ m row. IsRowByEq g.T.PartialEq.eq (row_in c.args.most (height m) c.args.index) m row) each c.requires.count
          c.loop-i.i m row c.loop-i-test.true c.index-matrices-i.is c.index-rows-i.is)) ∙ c.if-ne.true,
    )

pub loop-i-preserved : goal.loop-i-preserved
loop-i-preserved g c =
    let m = c.index-matrices-i.result in
    let row = c.index-rows-i.result in
    let told = tested_row g.T.PartialEq.eq c.as_slice.result.now row.items c.row_of.result.now (row_at m (row_in c.args.most (height m) c.args.index)) c.ne.result
    c.as_slice.ensures.value c.row_of.ensures.values c.ne.ensures in
    below_and_here c.args.matrices.now c.args.rows.now (λ m row. IsRowByEq g.T.PartialEq.eq (row_in c.args.most (height m) c.args.index) m row.items) c.loop-i.i m row
    c.loop-i-test.true (omega (arith, c.loop-i-test.true, c.requires.count)) c.index-matrices-i.is c.index-rows-i.is (told.0 c.if-ne.false) c.loop-i.invariant

pub returns : goal.returns
returns g c = (
  λ e. each_read c.args.matrices.now c.args.rows.now (λ v. v.items) (λ m row. IsRowByEq g.T.PartialEq.eq (row_in c.args.most (height m) c.args.index) m row) c.requires.count
      (λ j m row h. c.loop-i.invariant j m row (omega (arith, h, c.loop-i-test.false))),
  λ e. refl,
)
