use Rattle.audit_batch.specs.Laws.Naming.{after_none_of, after_one_more, after_test}
use Rattle.audit_batch.proofs.claims.name_listed.Goals as goal

pub loop-matrix-init : goal.loop-matrix-init
loop-matrix-init g c = after_none_of _ _

pub loop-matrix-preserved : goal.loop-matrix-preserved
loop-matrix-preserved g c =
    after_one_more _ c.loop-matrix.matrix _ _ _ c.loop-matrix.invariant (after_test _ _ c.is_listed-listed.result _ _ c.is_listed-listed.ensures c.in_ok-name_test.ensures)
