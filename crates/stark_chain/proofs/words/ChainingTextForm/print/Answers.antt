use Rattle.std.proofs.Common.{List, ℕ, ◌++◌, sym, ◌∙◌, ap}
use Rattle.std.proofs.lemmas.Result.{on_ok_weaker}
use Rattle.tool_lines.specs.Laws.Grammars.{numbers-own}
use Rattle.tool_lines.specs.Laws.Prints.{prints-items}
use Rattle.tool_lines.specs.Texts.{items_numbers, line_text, one_number}
use Rattle.stark_chain.proofs.words.ChainingTextForm.print.Goals as goal

pub returns : goal.returns
returns c =
    let words = c.args.value.now in
    on_ok_weaker c.print_items.result (λ e. prints-items (items_numbers one_number) words _ _ e ∙ ap (λ (l : List ℕ). c.args.out.now.items ++ line_text l) (sym (numbers-own words))) c.print_items.ensures
