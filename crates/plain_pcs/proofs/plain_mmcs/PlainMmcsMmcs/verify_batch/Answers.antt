use Rattle.std.proofs.Common.{◌≡◌, ◌∙◌, true, false, refl, sym, subst}
use Rattle.std.specs.Prelude.{All}
use Rattle.std.specs.Int.{IsPowerOfTwo}
use Rattle.p3_matrix.specs.Matrix.{height}
use Rattle.commit_rows.specs.Batches.{lists, IsRowOf}
use Rattle.plain_pcs.specs.PlainMmcs.{HasOpeningShape, AreTheRows}
use Rattle.plain_pcs.proofs.OpeningFaults.{wrong_opening, wrong_place, wrong_rows}
use Rattle.plain_pcs.proofs.plain_mmcs.PlainMmcsMmcs.verify_batch.Goals as goal

pub are_the_rows-requires-clause-powers : goal.are_the_rows-requires-clause-powers
are_the_rows-requires-clause-powers g c =
    subst (λ l. All (λ m. IsPowerOfTwo (height m)) l) (c.deref.ensures.value ∙ sym c.deref-3.ensures.value) (c.if-not-has_shape.ensures.0 refl).dimensions.powers

pub returns-then-not-has_shape-clause-verdict : goal.returns-then-not-has_shape-clause-verdict
returns-then-not-has_shape-clause-verdict g c =
    let rows = lists c.args.opening.opened_values.now in
    wrong_opening _ _ _ (λ s. let e : false ≡ true = c.if-not-has_shape.ensures.1 (subst (λ l. HasOpeningShape l c.args.dimensions.now rows) (sym c.deref.ensures.value) s) in cc)

pub returns-then-not-is_row-clause-verdict : goal.returns-then-not-is_row-clause-verdict
returns-then-not-is_row-clause-verdict g c =
    let rows = lists c.args.opening.opened_values.now in
    wrong_place _ _ _
    (subst (λ l. HasOpeningShape l c.args.dimensions.now rows) c.deref.ensures.value (c.if-not-has_shape.ensures.0 refl))
    (λ p. let e : false ≡ true = c.if-not-is_row.ensures.1 (subst (λ l. IsRowOf l c.args.index) (sym c.deref-2.ensures.value) p) in cc)

pub returns-then-not-are_the_rows-clause-verdict : goal.returns-then-not-are_the_rows-clause-verdict
returns-then-not-are_the_rows-clause-verdict g c =
    let rows = lists c.args.opening.opened_values.now in
    wrong_rows _ _ _
    (subst (λ l. HasOpeningShape l c.args.dimensions.now rows) c.deref.ensures.value (c.if-not-has_shape.ensures.0 refl))
    (subst (λ l. IsRowOf l c.args.index) c.deref-2.ensures.value (c.if-not-is_row.ensures.0 refl))
    (λ v. let e : false ≡ true = c.if-not-are_the_rows.ensures.1 (subst (λ l. AreTheRows g.T.PartialEq.eq l c.args.index rows) (sym c.deref-3.ensures.value) v) in cc)

pub returns-clause-verdict : goal.returns-clause-verdict
returns-clause-verdict g c =
    let rows = lists c.args.opening.opened_values.now in
    record {
      shape = subst (λ l. HasOpeningShape l c.args.dimensions.now rows) c.deref.ensures.value (c.if-not-has_shape.ensures.0 refl);
      place = subst (λ l. IsRowOf l c.args.index) c.deref-2.ensures.value (c.if-not-is_row.ensures.0 refl);
      values = subst (λ l. AreTheRows g.T.PartialEq.eq l c.args.index rows) c.deref-3.ensures.value (c.if-not-are_the_rows.ensures.0 refl);
    }
