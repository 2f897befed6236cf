use Rattle.std.proofs.Common.{Option, ◌∙◌, subst, sym}
use Rattle.p3_matrix.specs.Matrix.{Rows}
use Rattle.air_core.specs.Check.{HasHeight}
use Rattle.tool_shaped.proofs.parts.is_prepared.Goals as goal

pub returns : goal.returns
returns g c =
    let lent = c.as_ref.ensures.value ∙ c.in_ok-trace.ensures.trace in
    let P : Option (Rows g.row.F.Denot) → Type 0 = λ o. HasHeight o c.args.rows in
    let told = c.has_height.ensures in
    ((λ h. subst P lent (told.0 h)), λ h. told.1 (subst P (sym lent) h))
