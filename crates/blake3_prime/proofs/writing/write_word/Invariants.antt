use Rattle.std.proofs.Common.{◌≡◌, ℕ, ◌+◌, ◌<◌, ◌≤◌, ◌⊎◌, get_or, length}
use Rattle.std.specs.Int.{bit_at}
use Rattle.p3_field.specs.Ring.{of_nat}
use Rattle.blake3_prime.proofs.writing.write_word.Given as goal

abbrev pub invariant-loop-i : goal.invariant-loop-i
invariant-loop-i g l = record {
  long : length l.row ≡ length l.fn.row;
  written : (k : ℕ) (d : g.row.F.Denot) → k < l.i → get_or l.row (l.fn.at + k) d ≡ of_nat g.F.RingCore.ring (bit_at l.fn.word k);
  kept : (k : ℕ) (d : g.row.F.Denot) → (k < l.fn.at) ⊎ (l.fn.at + 32 ≤ k) → get_or l.row k d ≡ get_or l.fn.row k d;
}
