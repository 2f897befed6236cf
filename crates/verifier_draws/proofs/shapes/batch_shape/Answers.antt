use Rattle.std.proofs.Common.{ap, map, ◌∙◌}
use Rattle.std.specs.Prelude.{count_by, is_some}
use Rattle.p3_lookup.specs.Written.{read_all}
use Rattle.batch_statement.specs.Words.{has_some}
use Rattle.verifier_draws.specs.Draws.{lookup_counts_in}
use Rattle.verifier_draws.proofs.ScriptShape.{shape_is}
use Rattle.verifier_draws.proofs.shapes.batch_shape.Goals as goal

pub returns : goal.returns
returns g c =
    let there = c.is_some.ensures ∙ ap (λ v. is_some v.preprocessed) c.common.view_is in
    let counted = c.tables_with_lookups.ensures ∙ ap (count_by (λ ls. has_some (read_all ls))) (c.deref.ensures.value ∙ ap (λ v. v.lookups) c.common.view_is) in
    let numbers = c.in_ok-lookup_counts.ensures ∙ ap (λ ls. lookup_counts_in c.args.version (map (read_all {F = g.row.F.Denot}) ls)) (c.deref-2.ensures.value ∙ ap (λ v. v.lookups) c.common.view_is) in
    shape_is g.A.BaseAir.declaration g.A.Air.trees c.args.airs.now c.args.common.now c.args.version c.args.zk c.args.lookup_bits c.args.ood_bits _ _ _ _ _ _
    c.in_ok-trace_widths.ensures c.in_ok-public_value_counts.ensures c.in_ok-preprocessed_widths.ensures there counted numbers
