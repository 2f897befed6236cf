use Rattle.std.proofs.Common.{◌≡◌, ◌%◌, ◌++◌, length, map, take, get_or}
use Rattle.plain_pcs.proofs.evaluating.push_row.Given as goal

abbrev pub invariant-loop-column : goal.invariant-loop-column
invariant-loop-column g l = l.values.items ≡ l.fn.values.items ++ map (λ c. get_or c.items (l.row % length c.items) g.F.RingCore.ring.zero) (take l.column-index l.columns)
