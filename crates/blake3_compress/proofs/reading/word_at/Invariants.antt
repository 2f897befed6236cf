use Rattle.std.proofs.Common.{◌≡◌, ℕ, ◌+◌, ◌-◌, ◌/◌, ◌^◌, ◌<◌, ◌↔◌, get_or}
use Rattle.std.specs.Int.{bit_at}
use Rattle.p3_field.specs.Ring.{of_nat}
use Rattle.blake3_compress.proofs.reading.word_at.Given as goal

abbrev pub invariant-loop-i : goal.invariant-loop-i
invariant-loop-i g l = record {
  counted : (k : ℕ) (d : g.row.F.Denot) → k < l.i → (bit_at l.word k ≡ 0) ↔ (get_or l.row (l.at + (32 - l.i + k)) d ≡ g.F.RingCore.ring.zero);
  word : (w : ℕ) → w < 2 ^ 32 → ((k : ℕ) (d : g.row.F.Denot) → k < 32 → get_or l.row (l.at + k) d ≡ of_nat g.F.RingCore.ring (bit_at w k)) → l.word ≡ w / 2 ^ (32 - l.i);
}
