use Rattle.std.proofs.Common.{ℕ, ◌^◌, ◌<◌, [], get_or}
use Rattle.chain_air.proofs.ranges.blocks_fit.Given as goal

abbrev pub invariant-loop-i : goal.invariant-loop-i
invariant-loop-i l = (i k : ℕ) → i < l.i → k < 16 → get_or (get_or l.blocks i []) k 0 < 2 ^ 32
