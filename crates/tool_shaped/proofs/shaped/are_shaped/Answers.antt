use Rattle.std.proofs.Common.{Bool}
use Rattle.std.proofs.lemmas.Result.{IfOk-weaker}
use Rattle.tool_shaped.proofs.Told.{told_all}
use Rattle.tool_shaped.proofs.shaped.are_shaped.Goals as goal

pub returns : goal.returns
returns g c =
    let bounds = c.row_bounds-bounds.ensures in
    IfOk-weaker c.instances_have_shapes.result _ _ (λ (b : Bool) e. told_all _ g.A.BaseAir.declaration g.A.Air.trees g.A.Air.interactions c.args.instances.now _ _ b bounds.least bounds.most e) c.instances_have_shapes.ensures
