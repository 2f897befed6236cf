use Rattle.std.proofs.Common.{◌≡◌, ◌++◌, ◌∙◌, ap, ℕ, List}
use Rattle.tool_lines.specs.Texts.{line_text}
use Rattle.tool_lines.specs.Laws.Back.{text-reads-back}
use Rattle.tool_proof_files.specs.Files.{file_numbers}
use Rattle.tool_proof_files.specs.Laws.Files.{file-grammar}
use Rattle.tool_proof_files.proofs.file.write_proof_file.Goals as goal

pub returns-clause-reads_back : goal.returns-clause-reads_back
returns-clause-reads_back c =
    let text : c.print.new.out.items ≡ line_text (file_numbers c.args.file.now)
    = c.in_ok-print.ensures ∙ ap (λ (l : List ℕ). l ++ line_text (file_numbers c.args.file.now)) c.new-text.ensures.items in
    text-reads-back file-grammar c.args.file.now c.print.new.out.items c.requires text
