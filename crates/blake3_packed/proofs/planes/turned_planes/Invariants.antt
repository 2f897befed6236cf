use Rattle.std.proofs.Common.{◌≡◌, ℕ, ◌<◌, get_or, length}
use Rattle.std.specs.Prelude.{bit_xor}
use Rattle.std.specs.Int.{bit_at, rotate_right, w32}
use Rattle.blake3_packed.specs.Lanes.{ArePlanes}
use Rattle.blake3_packed.proofs.planes.turned_planes.Given as goal

abbrev pub invariant-loop-k : goal.invariant-loop-k
invariant-loop-k l = record {
  long : length l.turned ≡ 32;
  so_far : (v w : ℕ → ℕ) → ArePlanes l.x v → ArePlanes l.y w → (j k : ℕ) → j < 64 → k < l.k → bit_at (get_or l.turned k 0) j ≡ bit_at (rotate_right w32 (bit_xor (v j) (w j)) l.s) k;
}
