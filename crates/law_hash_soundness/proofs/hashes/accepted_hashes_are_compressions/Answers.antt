use Rattle.std.proofs.Common.{map, refl}
use Rattle.law_hash_soundness.specs.Laws.Hashes.{hashes_are_compressions}
use Rattle.law_hash_soundness.proofs.hashes.accepted_hashes_are_compressions.Goals as goal

pub returns : goal.returns
returns g c =
    let a = c.args in
    hashes_are_compressions
    _ _ a.config.now.pcs.log_blowup g.A.BaseAir.declaration g.A.Air.trees a.airs.now (map (λ v. v.items) a.public_values.now) a.common.now a.proof.now g.E.FieldCore.inv
    c.fields_have_laws.ensures (record { unmasked = refl; opens = λ state claims proof o. o }) (c.opened_claims_bind.ensures a.config.now.pcs) c.requires.formed c.requires.accepted
    g.met.A.Air.trees_read c.row_means.ensures.exact
