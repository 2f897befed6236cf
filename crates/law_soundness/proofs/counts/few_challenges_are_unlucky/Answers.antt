use Rattle.std.proofs.Common.{map, refl}
use Rattle.law_committed.specs.Laws.Counts.{no_alphas}
use Rattle.law_soundness.specs.Laws.Airs.{airs_alphas, airs_chunks, airs_row_alphas, airs_table_alphas, airs_table_zetas, airs_zetas}
use Rattle.law_soundness.proofs.counts.few_challenges_are_unlucky.Goals as goal

pub returns-clause-row_alphas : goal.returns-clause-row_alphas
returns-clause-row_alphas g c t row alphas among some distinct unlucky =
    let a = c.args in
    airs_row_alphas
    _ _ a.config.now.pcs.log_blowup g.A.BaseAir.declaration g.A.Air.trees a.airs.now (map (λ v. v.items) a.public_values.now) a.common.now a.proof.now g.E.FieldCore.inv
    c.fields_have_laws.ensures (record { unmasked = refl; opens = λ state claims proof o. o }) (c.opened_claims_bind.ensures a.config.now.pcs) c.requires.formed c.requires.accepted t row alphas some distinct unlucky

pub returns-clause-none : goal.returns-clause-none
returns-clause-none g c t alpha among none unlucky = no_alphas _ _ t.table t.trees alpha none unlucky

pub returns-clause-table_alphas : goal.returns-clause-table_alphas
returns-clause-table_alphas g c t alphas among distinct unlucky =
    let a = c.args in
    airs_table_alphas
    _ _ a.config.now.pcs.log_blowup g.A.BaseAir.declaration g.A.Air.trees a.airs.now (map (λ v. v.items) a.public_values.now) a.common.now a.proof.now g.E.FieldCore.inv
    c.fields_have_laws.ensures (record { unmasked = refl; opens = λ state claims proof o. o }) (c.opened_claims_bind.ensures a.config.now.pcs) c.requires.formed c.requires.accepted t alphas distinct unlucky

pub returns-clause-table_zetas : goal.returns-clause-table_zetas
returns-clause-table_zetas g c =
    let a = c.args in
    airs_table_zetas
    _ _ a.config.now.pcs.log_blowup g.A.BaseAir.declaration g.A.Air.trees a.airs.now (map (λ v. v.items) a.public_values.now) a.common.now a.proof.now g.E.FieldCore.inv
    c.fields_have_laws.ensures (record { unmasked = refl; opens = λ state claims proof o. o }) (c.opened_claims_bind.ensures a.config.now.pcs) c.requires.formed c.requires.accepted

pub returns-clause-chunks : goal.returns-clause-chunks
returns-clause-chunks g c i below =
    let a = c.args in
    airs_chunks
    _ _ a.config.now.pcs.log_blowup g.A.BaseAir.declaration g.A.Air.trees a.airs.now (map (λ v. v.items) a.public_values.now) a.common.now a.proof.now g.E.FieldCore.inv
    c.fields_have_laws.ensures (record { unmasked = refl; opens = λ state claims proof o. o }) (c.opened_claims_bind.ensures a.config.now.pcs) c.requires.formed c.requires.accepted i

pub returns-clause-alphas : goal.returns-clause-alphas
returns-clause-alphas g c =
    let a = c.args in
    airs_alphas
    _ _ a.config.now.pcs.log_blowup g.A.BaseAir.declaration g.A.Air.trees a.airs.now (map (λ v. v.items) a.public_values.now) a.common.now a.proof.now g.E.FieldCore.inv
    c.fields_have_laws.ensures (record { unmasked = refl; opens = λ state claims proof o. o }) (c.opened_claims_bind.ensures a.config.now.pcs) c.requires.formed c.requires.accepted

pub returns-clause-zetas : goal.returns-clause-zetas
returns-clause-zetas g c =
    let a = c.args in
    airs_zetas
    _ _ a.config.now.pcs.log_blowup g.A.BaseAir.declaration g.A.Air.trees a.airs.now (map (λ v. v.items) a.public_values.now) a.common.now a.proof.now g.E.FieldCore.inv
    c.fields_have_laws.ensures (record { unmasked = refl; opens = λ state claims proof o. o }) (c.opened_claims_bind.ensures a.config.now.pcs) c.requires.formed c.requires.accepted
