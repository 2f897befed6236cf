use Rattle.std.proofs.Common.{◌≡◌, List, [], take, map}
use Rattle.air_core.specs.Tree.{Tree, Represent, bool_tree, over_base}
use Rattle.air_core.specs.Asserting.{AssertsOne, ComputesBool, AssertsEach}
use Rattle.air_core.proofs.builder.AirBuilder.assert_bools.Given as goal

abbrev pub invariant-loop-x : goal.invariant-loop-x
invariant-loop-x g l =
    g.Self.AirBuilder.later l.initial.self l.self
    × (g.Self.AirBuilder.shape l.self ≡ g.Self.AirBuilder.shape l.initial.self)
    × ((ts : List (Tree g.row.Self-F.Denot)) → Represent (g.Self.AirBuilder.represents l.initial.self) l.xs ts
    → g.Self.AirBuilder.appends l.initial.self l.self (map over_base (map (bool_tree g.Self.F.RingCore.ring.one) (take l.x-index ts))) [])
    × AssertsEach (λ a x b. AssertsOne (λ m e. g.Self.AirBuilder.appends a m [] [] × ComputesBool g.Self.AirBuilder.represents g.Self.AirBuilder.computes g.Self.F.RingCore.ring.one x m e) g.Self.AirBuilder.asserts b) (take l.x-index l.xs) l.initial.self l.self
