use Rattle.std.proofs.Common.{◌∙◌, refl, sym, ap, subst, arith}
use Rattle.std.specs.Prelude.{All}
use Rattle.std.specs.Int.{IsPowerOfTwo}
use Rattle.std.proofs.lemmas.List.{take_all}
use Rattle.std.proofs.lemmas.List.Elements.{All-more}
use Rattle.p3_matrix.specs.Matrix.{height}
use Rattle.commit_rows.specs.Batches.{dimensions_of}
use Rattle.plain_pcs.proofs.Places.{read_all}
use Rattle.plain_pcs.proofs.Heights.{size_at, dimensions_more}
use Rattle.plain_pcs.proofs.rows.are_dimensions.Goals as goal

pub returns-then-not-is_size : goal.returns-then-not-is_size
returns-then-not-is_size g c = (
  λ e. absurd (cc),
  λ a. c.if-not-is_size.ensures.1 (
    size_at c.args.matrices.now c.args.dimensions.now c.loop-i.i c.index-matrices-i.result (record { width = 0; height = 0 }) a.same c.loop-i-test.true c.index-matrices-i.is,
    read_all (λ m. IsPowerOfTwo (height m)) c.args.matrices.now c.loop-i.i c.index-matrices-i.result c.loop-i-test.true c.index-matrices-i.is a.powers,
  ),
)

pub loop-i-preserved : goal.loop-i-preserved
loop-i-preserved g c =
    let size = c.if-not-is_size.ensures.0 refl in (
      dimensions_more c.args.matrices.now c.args.dimensions.now c.loop-i.i c.index-matrices-i.result (record { width = 0; height = 0 })
          c.if-dimensions-matrices.false c.loop-i-test.true c.index-matrices-i.is size.0 c.loop-i.invariant.0,
      All-more (λ m. IsPowerOfTwo (height m)) c.args.matrices.now c.loop-i.i c.index-matrices-i.result c.loop-i-test.true c.loop-i.invariant.1
          (subst (λ m. IsPowerOfTwo (height m)) c.index-matrices-i.is size.1),
    )

pub returns : goal.returns
returns g c =
    let i = c.loop-i.i in
    let ms = take_all i c.args.matrices.now c.loop-i-test.false in
    let ds = take_all i c.args.dimensions.now (omega (arith, c.loop-i-test.false, c.if-dimensions-matrices.false)) in (
      λ e. record { same = sym ds ∙ (c.loop-i.invariant.0 ∙ ap dimensions_of ms); powers = subst (λ l. All (λ m. IsPowerOfTwo (height m)) l) ms c.loop-i.invariant.1 },
      λ e. refl,
    )
