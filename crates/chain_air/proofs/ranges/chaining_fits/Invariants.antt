use Rattle.std.proofs.Common.{ℕ, ◌^◌, ◌<◌, get_or}
use Rattle.chain_air.proofs.ranges.chaining_fits.Given as goal

abbrev pub invariant-loop-i : goal.invariant-loop-i
invariant-loop-i l = (k : ℕ) → k < l.i → get_or l.words k 0 < 2 ^ 32
