use Rattle.std.proofs.Common.{map, refl}
use Rattle.law_soundness.specs.Laws.Airs.{airs_swaps}
use Rattle.law_soundness.proofs.swaps.accepted_swaps_end.Goals as goal

pub returns : goal.returns
returns g c =
    let a = c.args in
    airs_swaps
    _ _ a.config.now.pcs.log_blowup g.A.BaseAir.declaration g.A.Air.trees a.airs.now (map (λ v. v.items) a.public_values.now) a.common.now a.proof.now g.E.FieldCore.inv
    c.fields_have_laws.ensures (record { unmasked = refl; opens = λ state claims proof o. o }) (c.opened_claims_bind.ensures a.config.now.pcs) c.requires.formed c.requires.accepted g.met.A.Air.trees_read
