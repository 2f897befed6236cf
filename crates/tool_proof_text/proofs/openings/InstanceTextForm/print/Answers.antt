use Rattle.std.proofs.Common.{subst, ◌≡◌, ◌++◌}
use Rattle.p3_field.specs.declared.quartic.QuarticExtension.{QuarticExtension}
use Rattle.batch_statement.specs.Proof.{OpenedWithLookups}
use Rattle.tool_lines.specs.Texts.{line_text}
use Rattle.tool_proof_text.specs.Openings.{values_numbers, opened_numbers, instance_numbers}
use Rattle.tool_proof_text.proofs.Prints.{prints-three}
use Rattle.tool_proof_text.proofs.openings.InstanceTextForm.print.Goals as goal

pub returns : goal.returns
returns c =
    let p = c.value.inside in
    let first = opened_numbers p.base_opened_values in
    let second = values_numbers p.permutation_local.items in
    let third = values_numbers p.permutation_next.items in
    subst (λ (v : OpenedWithLookups QuarticExtension). c.print-3.new.out.items ≡ c.args.out.now.items ++ line_text (instance_numbers v)) c.value.view_is
    (prints-three c.args.out.now.items c.print.new.out.items c.print-2.new.out.items c.print-3.new.out.items first second third
    c.in_ok-print.ensures
    c.in_ok-print-2.ensures
    c.in_ok-print-3.ensures)
