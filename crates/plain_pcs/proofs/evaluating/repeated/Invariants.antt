use Rattle.std.proofs.Common.{◌%◌, length, map, get_or}
use Rattle.p3_matrix.specs.Laws.Grids.{IsGrid}
use Rattle.plain_pcs.proofs.evaluating.repeated.Given as goal

abbrev pub invariant-loop-i : goal.invariant-loop-i
invariant-loop-i g l = IsGrid g.F.RingCore.ring.zero l.values.items l.i (length l.columns) (λ i j. get_or (map (λ c. get_or c.items (i % length c.items) g.F.RingCore.ring.zero) l.columns) j g.F.RingCore.ring.zero)
