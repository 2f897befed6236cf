use Rattle.std.proofs.Common.{subst, ◌≡◌, ◌++◌}
use Rattle.std.specs.Prelude.{map, option_map}
use Rattle.p3_field.specs.declared.quartic.QuarticExtension.{QuarticExtension}
use Rattle.p3_uni_stark.specs.Opened.{OpenedData}
use Rattle.tool_lines.specs.Texts.{line_text, list_numbers, option_numbers}
use Rattle.tool_lines.specs.Laws.Prints.{prints-option}
use Rattle.tool_proof_text.specs.Openings.{values_numbers, preprocessed_numbers, opened_numbers}
use Rattle.tool_proof_text.proofs.Prints.{prints-five}
use Rattle.tool_proof_text.proofs.openings.OpenedTextForm.print.Goals as goal

pub returns : goal.returns
returns c =
    let p = c.value.inside in
    let first = values_numbers p.trace_local.items in
    let second = option_numbers values_numbers (option_map (λ x. x.items) p.trace_next) in
    let third = option_numbers preprocessed_numbers p.preprocessed in
    let fourth = list_numbers values_numbers (map (λ x. x.items) p.quotient_chunks.items) in
    let fifth = option_numbers values_numbers (option_map (λ x. x.items) p.random) in
    subst (λ (v : OpenedData QuarticExtension). c.print-5.new.out.items ≡ c.args.out.now.items ++ line_text (opened_numbers v)) c.value.view_is
    (prints-five c.args.out.now.items c.print.new.out.items c.print-2.new.out.items c.print-3.new.out.items c.print-4.new.out.items c.print-5.new.out.items first second third fourth fifth
    c.in_ok-print.ensures
    c.in_ok-print-2.ensures
    (prints-option (option_numbers preprocessed_numbers) p.preprocessed _ _ c.in_ok-print-3.ensures)
    c.in_ok-print-4.ensures
    c.in_ok-print-5.ensures)
