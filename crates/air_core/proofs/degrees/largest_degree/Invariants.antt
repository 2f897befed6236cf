use Rattle.std.proofs.Common.{◌≡◌, map, take}
use Rattle.air_core.specs.Degree.{degree, greatest}
use Rattle.air_core.specs.Recording.{trees_at}
use Rattle.air_core.proofs.degrees.largest_degree.Given as goal

abbrev pub invariant-loop-assertion : goal.invariant-loop-assertion
invariant-loop-assertion g l =
    l.largest ≡ greatest 0 (map (degree (g.D.CellDegrees.base l.cells) (g.D.CellDegrees.extension l.cells)) (trees_at l.nodes (take l.assertion-index l.asserted)))
