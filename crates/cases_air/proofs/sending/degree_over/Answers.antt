use Rattle.std.proofs.Common.{◌≡◌, ◌∷◌, [], length, map, Vec, Global, ◌∙◌, arith}
use Rattle.std.proofs.lemmas.List.{length-map}
use Rattle.p3_field.specs.declared.baby_bear.BabyBear.{BabyBear}
use Rattle.air_core.specs.Laws.Degrees.{declared_have_periods}
use Rattle.air_core.specs.Shape.{declared_shape}
use Rattle.air_tables.specs.Sending.{sending_declaration}
use Rattle.cases_air.proofs.sending.degree_over.Goals as goal

pub poly_degree-requires-clause-periods : goal.poly_degree-requires-clause-periods
poly_degree-requires-clause-periods c =
    let columns = map (λ (v : Vec BabyBear Global). v.items) c.in_ok-air.air.periodic.items in
    let one : length columns ≡ 1 = length-map c.in_ok-air.air.periodic.items (λ v. v.items) ∙ c.in_ok-air.air.one_periodic in
    declared_have_periods (declared_shape (sending_declaration c.in_ok-air.air.steps.items columns)) (2 ∷ []) _ (omega (arith, one))
    (c.reads_declared-declared.ensures.0 c.if-not-declared.false)
