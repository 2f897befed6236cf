use Rattle.law_soundness.specs.Laws.Accepted.{batch_holds, batch_low, heights_fit}
use Rattle.law_soundness.specs.Laws.Opened.{columns_declared, values_opened}
use Rattle.law_soundness.specs.Laws.Over.{own_binds, own_laws}
use Rattle.law_soundness.specs.PlainSetting.{plain_backend}
use Rattle.law_soundness.proofs.data.accepted_batches_hold.Goals as goal

pub returns-clause-opened : goal.returns-clause-opened
returns-clause-opened g c setting log_blowup s p over unmasked formed accepted = λ i below.
    values_opened setting (plain_backend setting log_blowup) log_blowup s p g.E.FieldCore.inv (own_laws _ _ _ setting over g.E.FieldCore.inv c.fields_have_laws.ensures)
    (record { unmasked = unmasked; opens = λ state claims proof o. o }) (own_binds _ _ _ setting over log_blowup (c.opened_claims_bind.ensures (record { log_blowup = log_blowup }))) formed accepted i below

pub returns-clause-columns : goal.returns-clause-columns
returns-clause-columns g c setting log_blowup s p over unmasked formed accepted = λ i below.
    columns_declared setting (plain_backend setting log_blowup) log_blowup s p g.E.FieldCore.inv (own_laws _ _ _ setting over g.E.FieldCore.inv c.fields_have_laws.ensures)
    (record { unmasked = unmasked; opens = λ state claims proof o. o }) (own_binds _ _ _ setting over log_blowup (c.opened_claims_bind.ensures (record { log_blowup = log_blowup }))) formed accepted i below

pub returns-clause-low : goal.returns-clause-low
returns-clause-low g c setting log_blowup s p over unmasked formed accepted =
    batch_low setting (plain_backend setting log_blowup) log_blowup s p g.E.FieldCore.inv (own_laws _ _ _ setting over g.E.FieldCore.inv c.fields_have_laws.ensures)
    (record { unmasked = unmasked; opens = λ state claims proof o. o }) (own_binds _ _ _ setting over log_blowup (c.opened_claims_bind.ensures (record { log_blowup = log_blowup }))) formed accepted

pub returns-clause-fits : goal.returns-clause-fits
returns-clause-fits g c setting log_blowup s p over unmasked formed accepted =
    heights_fit setting (plain_backend setting log_blowup) log_blowup s p g.E.FieldCore.inv (own_laws _ _ _ setting over g.E.FieldCore.inv c.fields_have_laws.ensures)
    (record { unmasked = unmasked; opens = λ state claims proof o. o }) (own_binds _ _ _ setting over log_blowup (c.opened_claims_bind.ensures (record { log_blowup = log_blowup }))) formed accepted

pub returns-clause-holds : goal.returns-clause-holds
returns-clause-holds g c setting log_blowup s p over unmasked formed reads accepted =
    batch_holds setting (plain_backend setting log_blowup) log_blowup s p g.E.FieldCore.inv (own_laws _ _ _ setting over g.E.FieldCore.inv c.fields_have_laws.ensures)
    (record { unmasked = unmasked; opens = λ state claims proof o. o }) (own_binds _ _ _ setting over log_blowup (c.opened_claims_bind.ensures (record { log_blowup = log_blowup }))) formed accepted reads
