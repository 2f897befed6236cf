use Rattle.std.proofs.Common.{map, refl}
use Rattle.law_soundness.specs.Laws.Airs.{airs_columns, airs_hold, airs_low, airs_opened, airs_own}
use Rattle.law_soundness.proofs.soundness.accepted_holds.Goals as goal

pub returns-clause-opened : goal.returns-clause-opened
returns-clause-opened g c =
    let a = c.args in
    airs_opened
    _ _ a.config.now.pcs.log_blowup g.A.BaseAir.declaration g.A.Air.trees a.airs.now (map (λ v. v.items) a.public_values.now) a.common.now a.proof.now g.E.FieldCore.inv
    c.fields_have_laws.ensures (record { unmasked = refl; opens = λ state claims proof o. o }) (c.opened_claims_bind.ensures a.config.now.pcs) c.requires.formed c.requires.accepted

pub returns-clause-columns : goal.returns-clause-columns
returns-clause-columns g c =
    let a = c.args in
    airs_columns
    _ _ a.config.now.pcs.log_blowup g.A.BaseAir.declaration g.A.Air.trees a.airs.now (map (λ v. v.items) a.public_values.now) a.common.now a.proof.now g.E.FieldCore.inv
    c.fields_have_laws.ensures (record { unmasked = refl; opens = λ state claims proof o. o }) (c.opened_claims_bind.ensures a.config.now.pcs) c.requires.formed c.requires.accepted

pub returns-clause-low : goal.returns-clause-low
returns-clause-low g c =
    let a = c.args in
    airs_low
    _ _ a.config.now.pcs.log_blowup g.A.BaseAir.declaration g.A.Air.trees a.airs.now (map (λ v. v.items) a.public_values.now) a.common.now a.proof.now g.E.FieldCore.inv
    c.fields_have_laws.ensures (record { unmasked = refl; opens = λ state claims proof o. o }) (c.opened_claims_bind.ensures a.config.now.pcs) c.requires.formed c.requires.accepted

pub returns-clause-holds : goal.returns-clause-holds
returns-clause-holds g c =
    let a = c.args in
    airs_hold
    _ _ a.config.now.pcs.log_blowup g.A.BaseAir.declaration g.A.Air.trees a.airs.now (map (λ v. v.items) a.public_values.now) a.common.now a.proof.now g.E.FieldCore.inv
    c.fields_have_laws.ensures (record { unmasked = refl; opens = λ state claims proof o. o }) (c.opened_claims_bind.ensures a.config.now.pcs) c.requires.formed c.requires.accepted g.met.A.Air.trees_read

pub returns-clause-own : goal.returns-clause-own
returns-clause-own g c holds i air below =
    let a = c.args in
    airs_own
    _ _ a.config.now.pcs.log_blowup g.A.BaseAir.declaration g.A.Air.trees a.airs.now (map (λ v. v.items) a.public_values.now) a.common.now a.proof.now g.E.FieldCore.inv
    c.fields_have_laws.ensures (record { unmasked = refl; opens = λ state claims proof o. o }) (c.opened_claims_bind.ensures a.config.now.pcs) c.requires.formed c.requires.accepted
    holds i air below
