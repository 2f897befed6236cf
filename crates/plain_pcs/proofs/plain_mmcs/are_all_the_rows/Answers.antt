use Rattle.std.proofs.Common.{◌<◌, length, get_or, refl, sym, subst, arith}
use Rattle.std.proofs.lemmas.List.{get_or_default}
use Rattle.commit_rows.specs.Batches.{lists}
use Rattle.plain_pcs.specs.PlainMmcs.{AreTheRows}
use Rattle.plain_pcs.proofs.Places.{each_read, read_at, below_and_here}
use Rattle.plain_pcs.proofs.plain_mmcs.are_all_the_rows.Goals as goal

pub returns-then-not-are_the_rows : goal.returns-then-not-are_the_rows
returns-then-not-are_the_rows g c =
    let ms = c.args.matrices.now in
    let i = c.loop-i.i in
    let eq = g.T.PartialEq.eq in
    let inside : i < length c.args.indices.now = omega (arith, c.loop-i-test.true, c.requires.count) in (
      λ e. absurd (cc),
      λ each. c.if-not-are_the_rows.ensures.1 (subst (λ l. AreTheRows eq ms (get_or c.args.indices.now i 0) (lists l)) (sym c.deref.ensures.value)
          (subst (λ v. AreTheRows eq ms (get_or c.args.indices.now i 0) (lists v.items)) (sym c.index-openings-i.is)
          (read_at c.args.indices.now c.args.openings.now (λ rows. lists rows.items) (AreTheRows eq ms) each c.requires.count i 0 c.index-openings-i.result inside c.loop-i-test.true))),
    )

pub loop-i-preserved : goal.loop-i-preserved
loop-i-preserved g c =
    let ms = c.args.matrices.now in
    let i = c.loop-i.i in
    let eq = g.T.PartialEq.eq in
    let index = get_or c.args.indices.now i 0 in
    let inside : i < length c.args.indices.now = omega (arith, c.loop-i-test.true, c.requires.count) in
    below_and_here c.args.indices.now c.args.openings.now (λ x v. AreTheRows eq ms x (lists v.items)) i index c.index-openings-i.result inside c.loop-i-test.true
    (get_or_default c.args.indices.now i 0 index inside) c.index-openings-i.is
    (subst (λ l. AreTheRows eq ms index (lists l)) c.deref.ensures.value (c.if-not-are_the_rows.ensures.0 refl)) c.loop-i.invariant

pub returns : goal.returns
returns g c = (
  λ e. each_read c.args.indices.now c.args.openings.now (λ rows. lists rows.items) (AreTheRows g.T.PartialEq.eq c.args.matrices.now) c.requires.count
      (λ j x v h. c.loop-i.invariant j x v (omega (arith, h, c.loop-i-test.false, c.requires.count))),
  λ e. refl,
)
