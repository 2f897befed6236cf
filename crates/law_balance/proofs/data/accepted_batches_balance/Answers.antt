use Rattle.std.proofs.Common.{◌≡◌, ℕ, ◌%◌, List}
use Rattle.p3_field.specs.Ring.{of_nat}
use Rattle.p3_lookup.specs.Bus.{widest}
use Rattle.p3_lookup.specs.Messages.{Message}
use Rattle.stark_balance.specs.Count.{AreTold, HasFewAlphas, HasFewMeetings}
use Rattle.law_soundness.specs.Laws.Over.{own_binds, own_laws}
use Rattle.law_soundness.specs.PlainSetting.{plain_backend}
use Rattle.law_balance.specs.Accepted.{messages_of_proof}
use Rattle.law_balance.specs.Laws.Accepted.{accepted_balance, messages_told}
use Rattle.law_balance.specs.Laws.Over.{own_facts}
use Rattle.law_balance.proofs.data.accepted_batches_balance.Goals as goal

pub returns-clause-balance : goal.returns-clause-balance
returns-clause-balance g c setting log_blowup s p over unmasked formed reads accepted =
    accepted_balance setting (plain_backend setting log_blowup) log_blowup s p g.E.FieldCore.inv (own_laws _ _ _ setting over g.E.FieldCore.inv c.fields_have_laws.ensures)
    (record { unmasked = unmasked; opens = λ state claims proof o. o }) (own_binds _ _ _ setting over log_blowup (c.opened_claims_bind.ensures (record { log_blowup = log_blowup })))
    formed accepted g.F.PartialEq.eq g.met.F.FieldCore.eq_same g.met.F.FieldCore.same_eq reads

pub returns-clause-betas : goal.returns-clause-betas
returns-clause-betas g c setting log_blowup s p over unmasked formed accepted few =
    let eq = g.F.PartialEq.eq in
    let inverse = g.E.FieldCore.inv in
    let canonical = g.F.PrimeCore64.canonical in
    own_facts _ _ _ setting over (λ x y. (width : ℕ) (ms : List (Message g.row.F.Denot)) → AreTold x.ring width ms → HasFewMeetings x.ring eq y.ring inverse y.embed width ms)
    c.few_lookup_pairs_are_unlucky.ensures.betas (widest s.common.lookups) (messages_of_proof setting log_blowup s p)
    (messages_told setting (plain_backend setting log_blowup) log_blowup s p inverse (own_laws _ _ _ setting over inverse c.fields_have_laws.ensures)
    (record { unmasked = unmasked; opens = λ state claims proof o. o }) (own_binds _ _ _ setting over log_blowup (c.opened_claims_bind.ensures (record { log_blowup = log_blowup })))
    formed accepted g.F.PrimeCore64.ORDER_U64 canonical
    (own_facts _ _ _ setting over (λ x y. (k : ℕ) → canonical (of_nat x.ring k) ≡ k % g.F.PrimeCore64.ORDER_U64) g.met.F.PrimeCore64.canonical_of) few)

pub returns-clause-alphas : goal.returns-clause-alphas
returns-clause-alphas g c setting log_blowup s p over =
    own_facts _ _ _ setting over (λ x y. (width : ℕ) (ms : List (Message g.row.F.Denot)) → HasFewAlphas x.ring g.F.PartialEq.eq y.ring g.E.FieldCore.inv y.embed width ms)
    c.few_lookup_pairs_are_unlucky.ensures.alphas (widest s.common.lookups) (messages_of_proof setting log_blowup s p)
