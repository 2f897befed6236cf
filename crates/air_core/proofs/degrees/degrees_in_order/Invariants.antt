use Rattle.std.proofs.Common.{◌≡◌, [], map, take}
use Rattle.air_core.specs.Degree.{degree}
use Rattle.air_core.specs.Symbolic.{trees_after}
use Rattle.air_core.proofs.degrees.degrees_in_order.Given as goal

abbrev pub invariant-loop-place : goal.invariant-loop-place
invariant-loop-place g l =
    l.degrees.items ≡ map (degree (g.D.CellDegrees.base l.cells) (g.D.CellDegrees.extension l.cells)) (trees_after [] (take l.place l.nodes))
