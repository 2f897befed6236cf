use Rattle.std.proofs.Common.{◌≡◌, ℕ, ◌+◌, ◌%◌, ◌^◌, ◌<◌, ◌≤◌, get_or, length}
use Rattle.std.specs.Int.{bit_at}
use Rattle.blake3_binary.specs.Sums.{carry}
use Rattle.blake3_packed.specs.Lanes.{ArePlanes}
use Rattle.blake3_packed.proofs.planes.add_two_planes.Given as goal

abbrev pub invariant-loop-k : goal.invariant-loop-k
invariant-loop-k l = record {
  long : length l.x ≡ 32;
  carries_long : length l.carries ≡ 32;
  rest : (k : ℕ) → l.k ≤ k → get_or l.x k 0 ≡ get_or l.fn.x k 0;
  first_carried : (v w : ℕ → ℕ) → ArePlanes l.fn.x v → ArePlanes l.y w → (j : ℕ) → j < 64 → bit_at l.first j ≡ carry (v j) (w j) l.k;
  second_carried : (v w u : ℕ → ℕ) → ArePlanes l.fn.x v → ArePlanes l.y w → ArePlanes l.z u → (j : ℕ) → j < 64 → bit_at l.second j ≡ carry ((v j + w j) % 2 ^ 32) (u j) l.k;
  carries_so_far : (v w : ℕ → ℕ) → ArePlanes l.fn.x v → ArePlanes l.y w → (j k : ℕ) → j < 64 → k < l.k → bit_at (get_or l.carries k 0) j ≡ carry (v j) (w j) k;
  so_far : (v w u : ℕ → ℕ) → ArePlanes l.fn.x v → ArePlanes l.y w → ArePlanes l.z u → (j k : ℕ) → j < 64 → k < l.k → bit_at (get_or l.x k 0) j ≡ bit_at (((v j + w j) % 2 ^ 32 + u j) % 2 ^ 32) k;
}
