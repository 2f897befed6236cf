use Rattle.std.proofs.Common.{◌∷◌, [], ◌++◌}
use Rattle.tool_lines.specs.Laws.Prints.{prints-part}
use Rattle.tool_proof_text.specs.ProofText.{proof_numbers}
use Rattle.stark_chain.proofs.file.WholeChainFileForm.print.Goals as goal

pub returns : goal.returns
returns c =
    let f = c.args.value.now in
    let proof = proof_numbers f.proof in
    prints-part c.args.out.now.items c.push_number.new.out.items c.print-3.new.out.items (2 ∷ []) (f.log_rows ∷ (f.start ++ (f.end ++ proof))) c.in_ok-push_number.ensures
    (prints-part c.push_number.new.out.items c.push_number-2.new.out.items c.print-3.new.out.items (f.log_rows ∷ []) (f.start ++ (f.end ++ proof)) c.in_ok-push_number-2.ensures
    (prints-part c.push_number-2.new.out.items c.print.new.out.items c.print-3.new.out.items f.start (f.end ++ proof) c.in_ok-print.ensures
    (prints-part c.print.new.out.items c.print-2.new.out.items c.print-3.new.out.items f.end proof c.in_ok-print-2.ensures c.in_ok-print-3.ensures)))
