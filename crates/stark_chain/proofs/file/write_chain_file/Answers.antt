use Rattle.std.proofs.Common.{◌≡◌, ◌++◌, ◌∙◌, ap, ℕ, List}
use Rattle.tool_lines.specs.Texts.{line_text}
use Rattle.tool_lines.specs.Laws.Back.{text-reads-back}
use Rattle.stark_chain.specs.Seen.{read_file}
use Rattle.stark_chain.specs.Texts.{file_numbers}
use Rattle.stark_chain.specs.Laws.Texts.{file-grammar}
use Rattle.stark_chain.proofs.file.write_chain_file.Goals as goal

pub returns-clause-reads_back : goal.returns-clause-reads_back
returns-clause-reads_back c fits =
    let file = read_file c.args.file.now in
    let text : c.print.new.out.items ≡ line_text (file_numbers file)
    = c.in_ok-print.ensures ∙ ap (λ (l : List ℕ). l ++ line_text (file_numbers file)) c.new-text.ensures.items in
    text-reads-back file-grammar file c.print.new.out.items fits text
