use Rattle.audit_script.specs.Steps.{draws_told}
use Rattle.audit_batch.proofs.Played.{folded_here, told_here}
use Rattle.audit_batch.proofs.audit.audit_played.Goals as goal

pub name_openings-requires-clause-draws : goal.name_openings-requires-clause-draws
name_openings-requires-clause-draws g c =
    told_here _ _ _ _ _ _ _ _ _ _ _ c.initialise_challenger-challenger.result c.args.shape.now (draws_told c.in_ok-text.field-0.draws) c.initialise_challenger-challenger.ensures c.requires.script
    c.in_ok-text.ensures.draws

pub returns-clause-faults : goal.returns-clause-faults
returns-clause-faults g c =
    let q = c.proof.inside in
    let h = c.shape.inside in
    folded_here _ _ _ _ c.args.shape.now h.num_lookup_instances h.lookup_pow_bits h.ood_pow_bits q.lookup_pow_witness q.ood_pow_witness (draws_told c.in_ok-text.field-0.draws) _ _ _ _ _
    c.check_terminals.result c.new-faults.ensures.items c.requires.shape c.requires.script (λ i. (c.shape.view_is i).num_lookup_instances) (λ i. (c.shape.view_is i).lookup_pow_bits)
    (λ i. (c.shape.view_is i).ood_pow_bits) (λ i. (c.proof.view_is i).lookup_pow_witness) (λ i. (c.proof.view_is i).ood_pow_witness)
    (told_here _ _ _ _ _ _ _ _ _ _ _ c.initialise_challenger-challenger.result c.args.shape.now (draws_told c.in_ok-text.field-0.draws) c.initialise_challenger-challenger.ensures c.requires.script
    c.in_ok-text.ensures.draws) c.requires.there c.in_ok-name_lookup_grinding.ensures c.in_ok-name_ood_grinding.ensures c.in_ok-name_openings.ensures c.check_terminals.ensures
    c.in_ok-name_answer.ensures.named
