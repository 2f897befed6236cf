use Rattle.std.proofs.Common.{ℕ, ◌<◌, get_or}
use Rattle.batch_setup.specs.Setup.{Instance}
use Rattle.tool_shaped.specs.Parts.{HasInstanceShape}
use Rattle.tool_shaped.proofs.shaped.instances_have_shapes.Given as goal

abbrev pub invariant-loop-instance : goal.invariant-loop-instance
invariant-loop-instance g l =
    (k : ℕ) (d : Instance g.row.A.Denot g.row.F.Denot) → k < l.instance-index → HasInstanceShape g.F.RingCore.ring g.F.TwoAdicCore.TWO_ADICITY l.least l.most g.A.BaseAir.declaration g.A.Air.trees g.A.Air.interactions (get_or l.instances k d)
