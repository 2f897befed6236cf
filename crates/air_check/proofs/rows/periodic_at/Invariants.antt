use Rattle.std.proofs.Common.{◌≡◌, map, take}
use Rattle.air_core.specs.Check.{periodic_row}
use Rattle.air_check.proofs.rows.periodic_at.Given as goal

abbrev pub invariant-loop-column : goal.invariant-loop-column
invariant-loop-column g l = l.values.items ≡ periodic_row g.F.RingCore.ring.zero (map (λ c. c.items) (take l.column-index l.columns)) l.row
