use Rattle.std.proofs.Common.{◌≡◌, List, ◌++◌, ◌∷◌, [], subst}
use Rattle.tool_lines.specs.Texts.{line_text, list_numbers}
use Rattle.tool_lines.specs.Laws.Prints.{prints-items, prints-part}
use Rattle.tool_statement.specs.declared.table.TableStatement.{TableStatement}
use Rattle.tool_proof_text.specs.ProofText.{proof_numbers}
use Rattle.tool_proof_files.specs.Files.{FileData, file_numbers, statement_numbers}
use Rattle.tool_proof_files.proofs.file.WholeFileForm.print.Goals as goal

pub returns : goal.returns
returns c =
    let f = c.value.inside in
    let front = c.args.out.now.items in
    subst (λ (v : FileData). c.print.new.out.items ≡ front ++ line_text (file_numbers v)) c.value.view_is
    (prints-part front c.print_list.new.out.items c.print.new.out.items ((f.version ∷ []) ++ list_numbers statement_numbers f.tables.items) (proof_numbers f.proof)
    (prints-part front c.push_number.new.out.items c.print_list.new.out.items (f.version ∷ []) (list_numbers statement_numbers f.tables.items) c.in_ok-push_number.ensures
    (subst (λ (l : List TableStatement). c.print_list.new.out.items ≡ c.push_number.new.out.items ++ line_text (list_numbers statement_numbers l)) c.deref.ensures.value
    (prints-items (list_numbers statement_numbers) c.deref.result.now _ _ c.in_ok-print_list.ensures)))
    c.in_ok-print.ensures)
