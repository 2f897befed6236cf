use Rattle.std.proofs.Common.{◌≡◌, ℕ, ◌-◌, ◌^◌, List, length, map, get_or, ◌∙◌, ap, subst}
use Rattle.p3_field.specs.Checks.{NoneFails, FirstFails, in_turn}
use Rattle.p3_field.specs.Laws.Tabulate.{length-tabulate}
use Rattle.p3_lookup.specs.Bus.{bus_count, batch_buses}
use Rattle.p3_lookup.specs.Written.{read_all}
use Rattle.batch_statement.specs.declared.error.BatchVerificationError.TheVariants.{Lookup}
use Rattle.verifier_shape.specs.ShapeChecks.{bound_at, heights_of}
use Rattle.verifier_shape.specs.Laws.Parts.{bounded, bound_refused}
use Rattle.verifier_shape.proofs.bounds.check_bounds.Goals as goal

pub check_multiplicity_height_bound-requires : goal.check_multiplicity_height_bound-requires
check_multiplicity_height_bound-requires g c =
    let a = c.args in
    ap length (c.deref.ensures.value ∙ c.in-Ok.ensures) ∙ length-tabulate (length a.degree_bits.now) (λ i. 2 ^ (get_or a.degree_bits.now i 0 - a.masks)) ∙ c.requires.lengths

pub returns-in-Ok-check_multiplicity_height_bound : goal.returns-in-Ok-check_multiplicity_height_bound
returns-in-Ok-check_multiplicity_height_bound g c =
    let a = c.args in
    let tables = map (read_all {F = g.row.F.Denot}) a.lookups.now in
    let order = g.F.PrimeCore64.ORDER_U64 in
    subst (λ hs. NoneFails (in_turn (bus_count (batch_buses tables)) (bound_at {R = g.row.R.Denot} order tables hs))) (c.deref.ensures.value ∙ c.in-Ok.ensures)
    (bounded g.row.R.Denot order tables c.deref.result.now c.in-Ok-check_multiplicity_height_bound.ensures)

pub returns : goal.returns
returns g c =
    let a = c.args in
    let tables = map (read_all {F = g.row.F.Denot}) a.lookups.now in
    let order = g.F.PrimeCore64.ORDER_U64 in
    let e = c.in-Err-check_multiplicity_height_bound.e in
    subst (λ hs. FirstFails (in_turn (bus_count (batch_buses tables)) (bound_at {R = g.row.R.Denot} order tables hs)) (Lookup e)) (c.deref.ensures.value ∙ c.in-Ok.ensures)
    (bound_refused g.row.R.Denot order tables c.deref.result.now e c.in-Err-check_multiplicity_height_bound.ensures)
