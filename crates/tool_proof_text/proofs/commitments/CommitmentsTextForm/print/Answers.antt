use Rattle.tool_lines.specs.Texts.{option_numbers}
use Rattle.tool_lines.specs.Laws.Prints.{prints-option}
use Rattle.tool_proof_text.specs.ProofText.{commitment_numbers}
use Rattle.tool_proof_text.proofs.Prints.{prints-four}
use Rattle.tool_proof_text.proofs.commitments.CommitmentsTextForm.print.Goals as goal

pub returns : goal.returns
returns c =
    let p = c.args.value.now in
    let first = commitment_numbers p.main in
    let second = option_numbers commitment_numbers p.permutation in
    let third = commitment_numbers p.quotient_chunks in
    let fourth = option_numbers commitment_numbers p.random in
    prints-four c.args.out.now.items c.print.new.out.items c.print-2.new.out.items c.print-3.new.out.items c.print-4.new.out.items first second third fourth
    c.in_ok-print.ensures
    (prints-option (option_numbers commitment_numbers) p.permutation _ _ c.in_ok-print-2.ensures)
    c.in_ok-print-3.ensures
    (prints-option (option_numbers commitment_numbers) p.random _ _ c.in_ok-print-4.ensures)
