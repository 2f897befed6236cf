use Rattle.std.proofs.Common.{◌≡◌, ℕ, ◌<◌, get_or}
use Rattle.plain_pcs.proofs.evaluations.first_different.Given as goal

abbrev pub invariant-loop-i : goal.invariant-loop-i
invariant-loop-i g l = (j : ℕ) → j < l.i → get_or l.claimed j g.E.RingCore.ring.zero ≡ get_or l.values j g.E.RingCore.ring.zero
