use Rattle.std.proofs.Common.{subst, ◌≡◌, ◌++◌}
use Rattle.std.specs.Prelude.{map, option_map}
use Rattle.tool_lines.specs.Texts.{line_text, list_numbers, option_numbers, one_number, element_numbers, extension_numbers}
use Rattle.tool_lines.specs.Laws.Prints.{prints-items, prints-option}
use Rattle.tool_proof_text.specs.Openings.{instance_numbers}
use Rattle.tool_proof_text.specs.ProofText.{commitments_numbers, proof_numbers, ToolProofData}
use Rattle.tool_proof_text.proofs.Prints.{prints-six}
use Rattle.tool_proof_text.proofs.proof.ProofTextForm.print.Goals as goal

pub returns : goal.returns
unfolding proof_numbers
returns c =
    let p = c.value.inside in
    let first = commitments_numbers p.commitments in
    let second = list_numbers instance_numbers p.opened_values in
    let third = list_numbers (option_numbers extension_numbers) (map (option_map (λ t. t.0)) p.lookup_terminals.items) in
    let fourth = list_numbers one_number p.degree_bits.items in
    let fifth = option_numbers element_numbers p.lookup_pow_witness in
    let sixth = element_numbers p.ood_pow_witness in
    subst (λ (v : ToolProofData). c.print-5.new.out.items ≡ c.args.out.now.items ++ line_text (proof_numbers v)) c.value.view_is
    (prints-six c.args.out.now.items c.print.new.out.items c.print_instances.new.out.items c.print-2.new.out.items c.print-3.new.out.items c.print-4.new.out.items c.print-5.new.out.items first second third fourth fifth sixth
    c.in_ok-print.ensures
    c.in_ok-print_instances.ensures
    c.in_ok-print-2.ensures
    (prints-items (list_numbers one_number) p.degree_bits.items _ _ c.in_ok-print-3.ensures)
    (prints-option (option_numbers element_numbers) p.lookup_pow_witness _ _ c.in_ok-print-4.ensures)
    c.in_ok-print-5.ensures)
