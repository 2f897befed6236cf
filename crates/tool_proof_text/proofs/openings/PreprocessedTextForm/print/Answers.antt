use Rattle.std.proofs.Common.{subst, ◌≡◌, ◌++◌}
use Rattle.std.specs.Prelude.{option_map}
use Rattle.p3_field.specs.declared.quartic.QuarticExtension.{QuarticExtension}
use Rattle.p3_uni_stark.specs.Opened.{PreprocessedData}
use Rattle.tool_lines.specs.Texts.{line_text, option_numbers}
use Rattle.tool_lines.specs.Laws.Prints.{prints-part}
use Rattle.tool_proof_text.specs.Openings.{values_numbers, preprocessed_numbers}
use Rattle.tool_proof_text.proofs.openings.PreprocessedTextForm.print.Goals as goal

pub returns : goal.returns
returns c =
    let p = c.value.inside in
    let first = values_numbers p.local.items in
    let second = option_numbers values_numbers (option_map (λ x. x.items) p.next) in
    subst (λ (v : PreprocessedData QuarticExtension). c.print-2.new.out.items ≡ c.args.out.now.items ++ line_text (preprocessed_numbers v)) c.value.view_is
    (prints-part c.args.out.now.items c.print.new.out.items c.print-2.new.out.items first second
    c.in_ok-print.ensures
    c.in_ok-print-2.ensures)
