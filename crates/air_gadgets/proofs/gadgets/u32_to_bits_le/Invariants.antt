use Rattle.std.proofs.Common.{◌≡◌, ℕ, ◌<◌, length, get_or}
use Rattle.std.specs.Int.{bit_at}
use Rattle.p3_field.specs.Ring.{of_nat}
use Rattle.air_gadgets.proofs.gadgets.u32_to_bits_le.Given as goal

abbrev pub invariant-loop-i : goal.invariant-loop-i
invariant-loop-i g l = let r = g.F.RingCore.ring in record {
  long : length l.bits ≡ 32;
  so_far : (k : ℕ) → k < l.i → get_or l.bits k r.zero ≡ of_nat r (bit_at l.word k);
}
