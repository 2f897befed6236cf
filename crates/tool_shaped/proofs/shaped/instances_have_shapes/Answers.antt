use Rattle.std.proofs.Common.{refl, sym, ◌∙◌, arith}
use Rattle.air_core.specs.Laws.Reads.{not_true}
use Rattle.batch_setup.specs.Setup.{Instance}
use Rattle.tool_shaped.specs.Parts.{HasInstanceShape}
use Rattle.tool_shaped.proofs.Turns.{at_item, one_more}
use Rattle.tool_shaped.proofs.shaped.instances_have_shapes.Goals as goal

pub loop-instance-preserved : goal.loop-instance-preserved
loop-instance-preserved g c =
    let P : Instance g.row.A.Denot g.row.F.Denot → Type 0 = λ i. HasInstanceShape g.F.RingCore.ring g.F.TwoAdicCore.TWO_ADICITY c.args.least c.args.most g.A.BaseAir.declaration g.A.Air.trees g.A.Air.interactions i in
    one_more P c.args.instances.now c.loop-instance.instance-index c.instance-item.result c.loop-instance-test.true c.instance-item.is c.loop-instance.invariant (c.in_ok-shaped.ensures.0 c.if-not-shaped.false)

pub returns-then-not-shaped : goal.returns-then-not-shaped
returns-then-not-shaped g c =
    let P : Instance g.row.A.Denot g.row.F.Denot → Type 0 = λ i. HasInstanceShape g.F.RingCore.ring g.F.TwoAdicCore.TWO_ADICITY c.args.least c.args.most g.A.BaseAir.declaration g.A.Air.trees g.A.Air.interactions i in (
      (λ h. absurd (not_true h)),
      λ h. sym c.if-not-shaped.true ∙ c.in_ok-shaped.ensures.1 (at_item P c.args.instances.now c.loop-instance.instance-index c.instance-item.result c.loop-instance-test.true c.instance-item.is h),
    )

pub returns : goal.returns
returns g c = ((λ h k d b. c.loop-instance.invariant k d (omega arith)), λ h. refl)
