use Rattle.std.proofs.Common.{◌≡◌, map}
use Rattle.commit_core.specs.Claims.{point_claim}
use Rattle.commit_core.proofs.claims.MatrixOpening.from_tuple.Given as goal

abbrev pub invariant-loop-pair : goal.invariant-loop-pair
invariant-loop-pair g l = l.points.items ≡ map point_claim l.yielded
