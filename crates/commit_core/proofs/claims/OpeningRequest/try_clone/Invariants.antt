use Rattle.std.proofs.Common.{◌≡◌, map, take}
use Rattle.commit_core.proofs.claims.OpeningRequest.try_clone.Given as goal

abbrev pub invariant-loop-list : goal.invariant-loop-list
invariant-loop-list g l = map (λ v. v.items) l.points.items ≡ map (λ v. v.items) (take l.list-index l.list-items)
