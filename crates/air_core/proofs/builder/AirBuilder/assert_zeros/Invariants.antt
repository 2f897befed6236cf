use Rattle.std.proofs.Common.{◌≡◌, List, [], map, take}
use Rattle.air_core.specs.Tree.{Tree, Represent, over_base}
use Rattle.air_core.specs.Asserting.{AssertsEach}
use Rattle.air_core.proofs.builder.AirBuilder.assert_zeros.Given as goal

abbrev pub invariant-loop-x : goal.invariant-loop-x
invariant-loop-x g l =
    g.Self.AirBuilder.later l.initial.self l.self
    × (g.Self.AirBuilder.shape l.self ≡ g.Self.AirBuilder.shape l.initial.self)
    × ((ts : List (Tree g.row.Self-F.Denot)) → Represent (g.Self.AirBuilder.represents l.initial.self) l.xs ts
    → g.Self.AirBuilder.appends l.initial.self l.self (map over_base (take l.x-index ts)) [])
    × AssertsEach g.Self.AirBuilder.asserts (take l.x-index l.xs) l.initial.self l.self
