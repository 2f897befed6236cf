use Rattle.std.proofs.Common.{arith}
use Rattle.audit_batch.specs.Laws.Naming.{after_none_of, after_one_more, after_until, after_verdict}
use Rattle.audit_batch.proofs.identities.name_identities.Goals as goal

pub loop-index-init : goal.loop-index-init
loop-index-init g c = after_none_of _ _

pub loop-index-preserved : goal.loop-index-preserved
loop-index-preserved g c =
    after_one_more _ c.loop-index.index _ _ _ c.loop-index.invariant
    (after_verdict _ c.check_identity_at-answer.result _ _ c.check_identity_at-answer.ensures c.in_ok-name_answer.ensures.memory c.in_ok-name_answer.ensures.named)

pub returns : goal.returns
returns g c = after_until _ c.loop-index.index _ _ _ (omega arith) c.loop-index.invariant
