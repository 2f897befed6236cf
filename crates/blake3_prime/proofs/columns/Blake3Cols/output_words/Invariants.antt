use Rattle.std.proofs.Common.{◌≡◌, ℕ, ◌+◌, ◌*◌, ◌^◌, ◌<◌, ◌↔◌, get_or, length}
use Rattle.std.specs.Int.{bit_at}
use Rattle.p3_field.specs.Ring.{of_nat}
use Rattle.blake3_prime.proofs.columns.Blake3Cols.output_words.Given as goal

abbrev pub invariant-loop-i : goal.invariant-loop-i
invariant-loop-i g l = record {
  long : length l.words ≡ 16;
  counted : (i k : ℕ) (d : g.row.F.Denot) → i < l.i → k < 32 → (bit_at (get_or l.words i 0) k ≡ 0) ↔ (get_or l.self.row.now (8656 + 32 * i + k) d ≡ g.F.RingCore.ring.zero);
  so_far : (w : ℕ → ℕ) → ((i : ℕ) → i < 16 → w i < 2 ^ 32)
      → ((i k : ℕ) (d : g.row.F.Denot) → i < 16 → k < 32 → get_or l.self.row.now (8656 + 32 * i + k) d ≡ of_nat g.F.RingCore.ring (bit_at (w i) k))
      → (i : ℕ) → i < l.i → get_or l.words i 0 ≡ w i;
}
