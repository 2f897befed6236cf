use Rattle.std.proofs.Common.{◌≡◌, List, ℕ, ◌++◌, subst}
use Rattle.tool_lines.specs.Laws.Prints.{prints-items, prints-part}
use Rattle.tool_lines.specs.Texts.{line_text, list_numbers}
use Rattle.stark_chain.specs.Texts.{words_numbers}
use Rattle.stark_chain.proofs.job.WholeChainJobForm.print.Goals as goal

pub returns : goal.returns
returns c =
    let j = c.args.value.now in
    prints-part c.args.out.now.items c.print.new.out.items c.print_list.new.out.items j.start (list_numbers words_numbers j.blocks.items) c.in_ok-print.ensures
    (subst (λ (l : List (List ℕ)). c.print_list.new.out.items ≡ c.print.new.out.items ++ line_text (list_numbers words_numbers l)) c.deref.ensures.value
    (prints-items (list_numbers words_numbers) c.deref.result.now _ _ c.in_ok-print_list.ensures))
