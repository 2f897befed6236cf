use Rattle.audit_batch.proofs.Played.{unplayed_here}
use Rattle.audit_batch.proofs.audit.audit_unplayed.Goals as goal

pub returns : goal.returns
returns g c =
    unplayed_here _ _ _ _ c.args.shape.now c.shape.inside.lookup_pow_bits _ _ _ _ c.check_terminals.result c.new-faults.ensures.items c.requires.shape c.requires.script
    (λ i. (c.shape.view_is i).lookup_pow_bits) c.requires.missing c.in_ok-name_test.ensures c.in_ok-name_claims.ensures c.check_terminals.ensures c.in_ok-name_answer.ensures.named
