use Rattle.std.proofs.Common.{◌∙◌}
use Rattle.p3_field.specs.Laws.Tabulate.{tabulate_push}
use Rattle.verifier_claims.proofs.claim_rounds.all_matrix_claims.Goals as goal

pub loop-matrix-preserved : goal.loop-matrix-preserved
loop-matrix-preserved g c = c.in_ok-push.ensures.items ∙ tabulate_push c.loop-matrix.matrix _ _ _ c.loop-matrix.invariant c.in_ok-claim.ensures
