use Rattle.std.proofs.Common.{◌∙◌}
use Rattle.p3_field.specs.Laws.Tabulate.{tabulate_push}
use Rattle.verifier_claims.proofs.claim_rounds.random_claims.Goals as goal

pub loop-index-preserved : goal.loop-index-preserved
loop-index-preserved g c = c.in_ok-push.ensures.items ∙ tabulate_push c.loop-index.index _ _ _ c.loop-index.invariant c.in_ok-claim.ensures
