use Rattle.std.proofs.Common.{◌≡◌, ℕ, ◌+◌, ◌<◌, ◌≤◌, length, get_or}
use Rattle.p3_dft.proofs.radix2.push_zeros.Given as goal

abbrev pub invariant-loop : goal.invariant-loop
invariant-loop g l = record {
  length_is : length l.rows.items ≡ length l.fn.rows.items + l.counter;
  before : (k : ℕ) → k < length l.fn.rows.items → get_or l.rows.items k g.F.RingCore.ring.zero ≡ get_or l.fn.rows.items k g.F.RingCore.ring.zero;
  zeros : (k : ℕ) → length l.fn.rows.items ≤ k → get_or l.rows.items k g.F.RingCore.ring.zero ≡ g.F.RingCore.ring.zero;
}
