use Rattle.std.proofs.Common.{◌≡◌, ◌≤◌, ◌<◌, ◌-◌, ℕ, length, get_or}
use Rattle.plain_pcs.proofs.verifying.has_degree_below.Given as goal

abbrev pub invariant-loop-i : goal.invariant-loop-i
invariant-loop-i g l = record {
  from : l.bound ≤ l.i;
  zeros : (k : ℕ) → l.bound ≤ k → k < l.i → get_or l.polynomial k g.F.RingCore.ring.zero ≡ g.F.RingCore.ring.zero;
}

abbrev pub decreases-loop-i : goal.decreases-loop-i
decreases-loop-i g l = length l.polynomial - l.i
