use Rattle.std.proofs.Common.{◌≡◌, ℕ, ◌+◌, ◌<◌, get_or, length}
use Rattle.blake3_packed.proofs.inputs.half_of.Given as goal

abbrev pub invariant-loop-k : goal.invariant-loop-k
invariant-loop-k l = record {
  long : length l.half ≡ 32;
  so_far : (k : ℕ) → k < l.k → get_or l.half k 0 ≡ get_or l.planes (l.from + k) 0;
}
