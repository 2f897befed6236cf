use Rattle.std.proofs.Common.{◌≡◌, ◌∙◌, map, true, false, refl, sym, subst}
use Rattle.std.specs.Prelude.{All}
use Rattle.std.specs.Int.{IsPowerOfTwo}
use Rattle.p3_matrix.specs.Matrix.{height}
use Rattle.commit_core.specs.Periodic.{EachFrom}
use Rattle.commit_rows.specs.Batches.{lists, IsRowOf}
use Rattle.plain_pcs.specs.PlainMmcs.{HaveOpeningShapes, AreTheRows}
use Rattle.plain_pcs.proofs.Heights.{row_counts}
use Rattle.plain_pcs.proofs.OpeningFaults.{wrong_opening, wrong_place, wrong_rows}
use Rattle.plain_pcs.proofs.plain_mmcs.PlainMmcsMmcs.verify_multi_batch.Goals as goal

pub returns-then-not-have_shape-clause-verdict : goal.returns-then-not-have_shape-clause-verdict
returns-then-not-have_shape-clause-verdict g c =
    let openings = map (λ rows. lists rows.items) c.args.opened_values.now in
    wrong_opening _ _ _
    (λ s. let e : false ≡ true = c.if-not-have_shape.ensures.1 (subst (λ l. HaveOpeningShapes l c.args.dimensions.now c.args.indices.now openings) (sym c.deref.ensures.value) s) in cc)

pub returns-then-not-are_places-clause-verdict : goal.returns-then-not-are_places-clause-verdict
returns-then-not-are_places-clause-verdict g c =
    let openings = map (λ rows. lists rows.items) c.args.opened_values.now in
    wrong_place _ _ _
    (subst (λ l. HaveOpeningShapes l c.args.dimensions.now c.args.indices.now openings) c.deref.ensures.value (c.if-not-have_shape.ensures.0 refl))
    (λ p. let e : false ≡ true = c.if-not-are_places.ensures.1 (subst (λ l. All (IsRowOf l) c.args.indices.now) (sym c.deref-2.ensures.value) p) in cc)

pub are_all_the_rows-requires-clause-powers : goal.are_all_the_rows-requires-clause-powers
are_all_the_rows-requires-clause-powers g c =
    subst (λ l. All (λ m. IsPowerOfTwo (height m)) l) (c.deref.ensures.value ∙ sym c.deref-3.ensures.value) (c.if-not-have_shape.ensures.0 refl).dimensions.powers

pub are_all_the_rows-requires-clause-places : goal.are_all_the_rows-requires-clause-places
are_all_the_rows-requires-clause-places g c =
    subst (λ l. All (IsRowOf l) c.args.indices.now) (c.deref-2.ensures.value ∙ sym c.deref-3.ensures.value) (c.if-not-are_places.ensures.0 refl)

pub are_all_the_rows-requires-clause-rows : goal.are_all_the_rows-requires-clause-rows
are_all_the_rows-requires-clause-rows g c =
    let openings = map (λ rows. lists rows.items) c.args.opened_values.now in
    let shape = subst (λ l. HaveOpeningShapes l c.args.dimensions.now c.args.indices.now openings) (c.deref.ensures.value ∙ sym c.deref-3.ensures.value) (c.if-not-have_shape.ensures.0 refl) in
    row_counts c.deref-3.result.now c.args.dimensions.now c.args.opened_values.now shape.dimensions shape.widths

pub returns-then-not-are_all_the_rows-clause-verdict : goal.returns-then-not-are_all_the_rows-clause-verdict
returns-then-not-are_all_the_rows-clause-verdict g c =
    let openings = map (λ rows. lists rows.items) c.args.opened_values.now in
    wrong_rows _ _ _
    (subst (λ l. HaveOpeningShapes l c.args.dimensions.now c.args.indices.now openings) c.deref.ensures.value (c.if-not-have_shape.ensures.0 refl))
    (subst (λ l. All (IsRowOf l) c.args.indices.now) c.deref-2.ensures.value (c.if-not-are_places.ensures.0 refl))
    (λ v. let e : false ≡ true = c.if-not-are_all_the_rows.ensures.1 (subst (λ l. EachFrom c.args.indices.now openings (AreTheRows g.T.PartialEq.eq l)) (sym c.deref-3.ensures.value) v) in cc)

pub returns-clause-verdict : goal.returns-clause-verdict
returns-clause-verdict g c =
    let openings = map (λ rows. lists rows.items) c.args.opened_values.now in
    record {
      shape = subst (λ l. HaveOpeningShapes l c.args.dimensions.now c.args.indices.now openings) c.deref.ensures.value (c.if-not-have_shape.ensures.0 refl);
      places = subst (λ l. All (IsRowOf l) c.args.indices.now) c.deref-2.ensures.value (c.if-not-are_places.ensures.0 refl);
      values = subst (λ l. EachFrom c.args.indices.now openings (AreTheRows g.T.PartialEq.eq l)) c.deref-3.ensures.value (c.if-not-are_all_the_rows.ensures.0 refl);
    }
