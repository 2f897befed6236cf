use Rattle.std.proofs.Common.{◌≡◌, ℕ, ◌<◌, length, get_or}
use Rattle.plain_pcs.proofs.rows.have_widths.Given as goal

abbrev pub invariant-loop-i : goal.invariant-loop-i
invariant-loop-i g l = (j : ℕ) (d : _) (row : _) → j < l.i → length (get_or l.rows j row).items ≡ (get_or l.dimensions j d).width
