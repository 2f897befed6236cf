use Rattle.std.proofs.Common.{sym}
use Rattle.std.proofs.lemmas.List.{append-nil}
use Rattle.verifier_claims.proofs.Lists.{after_push}
use Rattle.verifier_claims.proofs.claim_rounds.with_chunks.Goals as goal

pub loop-index-init : goal.loop-index-init
loop-index-init g c = sym (append-nil c.args.made.items)

pub loop-index-preserved : goal.loop-index-preserved
loop-index-preserved g c = after_push c.loop-index.index _ _ _ _ _ c.loop-index.invariant c.in_ok-push.ensures.items c.in_ok-claim.ensures
