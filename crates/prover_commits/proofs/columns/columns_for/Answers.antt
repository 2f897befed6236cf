use Rattle.std.proofs.Common.{arith}
use Rattle.prover_commits.proofs.Whole.{made_until}
use Rattle.prover_commits.proofs.columns.columns_for.Goals as goal

pub returns : goal.returns
returns g c = made_until _ _ c.loop-place.place _ _ _ c.loop-place.invariant (omega arith)
