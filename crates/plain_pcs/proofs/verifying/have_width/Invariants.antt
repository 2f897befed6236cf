use Rattle.std.proofs.Common.{◌≡◌, ◌<◌, ℕ, length, get_or}
use Rattle.plain_pcs.proofs.verifying.have_width.Given as goal

abbrev pub invariant-loop-point : goal.invariant-loop-point
invariant-loop-point g l = (i : ℕ) (d : _) → i < l.point-index → length (get_or l.points i d).values ≡ l.width
