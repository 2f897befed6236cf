use Rattle.std.proofs.Common.{◌≡◌, ℕ, ◌*◌, ◌<◌, get_or, length}
use Rattle.std.specs.Int.{bit_at}
use Rattle.blake3_packed.proofs.state.constant_planes.Given as goal

abbrev pub invariant-loop-k : goal.invariant-loop-k
invariant-loop-k l = record {
  long : length l.planes ≡ 32;
  so_far : (k : ℕ) → k < l.k → (j : ℕ) → bit_at (get_or l.planes k 0) j ≡ bit_at (bit_at l.present j * l.word) k;
}
