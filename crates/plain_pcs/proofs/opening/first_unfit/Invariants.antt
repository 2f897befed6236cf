use Rattle.std.proofs.Common.{◌≡◌, ℕ, ◌<◌, length, get_or}
use Rattle.plain_pcs.proofs.opening.first_unfit.Given as goal

abbrev pub invariant-loop-index : goal.invariant-loop-index
invariant-loop-index g l = (k : ℕ) (d : _) → k < l.index → length (get_or l.requests k d).points ≡ length (get_or l.requests k d).prover_data
