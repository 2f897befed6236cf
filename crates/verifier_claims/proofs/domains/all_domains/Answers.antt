use Rattle.std.proofs.Common.{map, ap}
use Rattle.verifier_claims.proofs.Lists.{map_push}
use Rattle.verifier_claims.proofs.domains.all_domains.Goals as goal

pub loop-index-init : goal.loop-index-init
loop-index-init g c = ap (map (λ d. d.items)) c.new-domains.ensures.items

pub loop-index-preserved : goal.loop-index-preserved
loop-index-preserved g c = map_push (λ d. d.items) c.loop-index.index _ _ _ _ c.in_ok-push.ensures.items c.loop-index.invariant c.in_ok-parts.ensures
