use Rattle.std.proofs.Common.{◌≡◌, map}
use Rattle.commit_core.specs.Claims.{matrix_claim}
use Rattle.commit_core.proofs.claims.matrix_openings.Given as goal

abbrev pub invariant-loop-pair : goal.invariant-loop-pair
invariant-loop-pair g l = l.matrices.items ≡ map matrix_claim l.yielded
