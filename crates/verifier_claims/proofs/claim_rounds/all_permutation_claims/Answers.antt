use Rattle.verifier_claims.proofs.Lists.{flat_push}
use Rattle.verifier_claims.proofs.claim_rounds.all_permutation_claims.Goals as goal

pub loop-index-preserved : goal.loop-index-preserved
loop-index-preserved g c = flat_push _ c.loop-index.index _ _ c.loop-index.invariant c.in_ok-claims.ensures
