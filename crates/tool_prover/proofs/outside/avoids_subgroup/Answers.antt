use Rattle.std.proofs.Common.{◌∙◌, refl}
use Rattle.tool_prover.proofs.Points.{avoided, number_one, small_subgroup}
use Rattle.tool_prover.proofs.outside.avoids_subgroup.Goals as goal

pub unreachable-requires : goal.unreachable-requires
unreachable-requires c = small_subgroup c.args.log _ (number_one _ refl) c.requires c.in-None.ensures

pub returns : goal.returns
returns c =
    let a = c.in-Some.ensures in
    avoided c.in-Some.rows c.args.log c.args.point c.vanishing_poly_at_point.result c.is_zero.result (a.0 ∙ number_one _ refl) a.1 c.vanishing_poly_at_point.ensures.value c.is_zero.ensures
