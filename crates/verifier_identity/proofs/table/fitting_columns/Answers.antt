use Rattle.std.proofs.Common.{length, map, refl, sym, ◌∙◌, ap, subst, inr, Vec, Global}
use Rattle.std.proofs.lemmas.Simd.{map-map}
use Rattle.p3_field.specs.Checks.{NoneFails, FirstFails}
use Rattle.commit_core.specs.Periodic.{NamesFirstUnfit}
use Rattle.verifier_identity.proofs.Columns.{lengths_fit}
use Rattle.verifier_identity.specs.Laws.Single.{not_all_fit}
use Rattle.verifier_identity.proofs.table.fitting_columns.Goals as goal

pub returns-in-Ok-clause-decided : goal.returns-in-Ok-clause-decided
unfolding NoneFails
returns-in-Ok-clause-decided g c =
    (lengths_fit (λ (v : Vec g.row.F.Denot Global). v.items) c.args.height c.periodic_columns.result.now (g.A.BaseAir.declaration c.args.air.now).periodic c.periodic_columns.ensures c.in-Ok.ensures.2, tt)

pub returns-in-Err-clause-decided : goal.returns-in-Err-clause-decided
unfolding FirstFails
returns-in-Err-clause-decided g c =
    let named = subst (λ ls. NamesFirstUnfit c.args.height ls c.in-Err.e)
    (sym (map-map length (λ (v : Vec g.row.F.Denot Global). v.items) c.periodic_columns.result.now) ∙ ap (map length) c.periodic_columns.ensures) c.in-Err.ensures in
    inr (not_all_fit c.args.height _ c.in-Err.e named, (c.in-Err.e, named, refl))
