use Rattle.std.proofs.Common.{ap, ◌∙◌}
use Rattle.std.specs.Prelude.{IfOk, IsTrue, ◌↔◌}
use Rattle.batch_setup.specs.Packed.{source_of}
use Rattle.tool_shaped.specs.Parts.{HasShape}
use Rattle.tool_shaped.proofs.Turns.{moved}
use Rattle.tool_shaped.proofs.shape.instance_has_shape.Goals as goal

pub returns : goal.returns
returns g c =
    let is = c.instance.view_is in
    moved
    (λ a m ps. IfOk c.has_shape.result (λ b. IsTrue b ↔ HasShape g.F.RingCore.ring g.F.TwoAdicCore.TWO_ADICITY c.args.least c.args.most (source_of g.A.BaseAir.declaration g.A.Air.trees g.A.Air.interactions a) m ps))
    _ _ _ _ _ _ (ap (λ i. i.air) is) (ap (λ i. i.trace) is) (c.deref.ensures.value ∙ ap (λ i. i.public_values) is) c.has_shape.ensures
