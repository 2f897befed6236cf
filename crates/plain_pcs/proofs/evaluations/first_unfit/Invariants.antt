use Rattle.std.proofs.Common.{◌≡◌, ℕ, ◌<◌, [], length, get_or}
use Rattle.commit_rows.specs.Batches.{lists}
use Rattle.plain_pcs.proofs.evaluations.first_unfit.Given as goal

abbrev pub invariant-loop-i : goal.invariant-loop-i
invariant-loop-i g l = (j : ℕ) → j < l.i → length (get_or (lists l.points) j []) ≡ l.num_vars
