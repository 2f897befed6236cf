use Rattle.audit_batch.specs.Laws.Naming.{after_call, after_none_of, after_one_more}
use Rattle.audit_batch.proofs.claims.name_domains.Goals as goal

pub loop-index-init : goal.loop-index-init
loop-index-init g c = after_none_of _ _

pub loop-index-preserved : goal.loop-index-preserved
loop-index-preserved g c =
    after_one_more _ c.loop-index.index _ _ _ c.loop-index.invariant (after_call _ c.domain_fits-answer.result _ _ c.domain_fits-answer.ensures c.in_ok-name_answer.ensures.named)
