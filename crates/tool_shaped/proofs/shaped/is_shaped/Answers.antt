use Rattle.std.proofs.Common.{Bool}
use Rattle.std.proofs.lemmas.Result.{IfOk-weaker}
use Rattle.tool_shaped.proofs.Told.{told}
use Rattle.tool_shaped.proofs.shaped.is_shaped.Goals as goal

pub returns : goal.returns
returns g c =
    let bounds = c.row_bounds-bounds.ensures in
    IfOk-weaker c.instance_has_shape.result _ _ (λ (b : Bool) e. told _ g.A.BaseAir.declaration g.A.Air.trees g.A.Air.interactions c.args.instance.now _ _ b bounds.least bounds.most e) c.instance_has_shape.ensures
