use Rattle.std.proofs.Common.{◌≡◌, ◌++◌, take}
use Rattle.tool_lines.specs.Texts.{line_text, items_numbers}
use Rattle.tool_lines.proofs.lists.print_items.Given as goal

abbrev pub invariant-loop-item : goal.invariant-loop-item
invariant-loop-item g l = l.out.items ≡ l.fn.out.items ++ line_text (items_numbers (λ v. g.T.Form.numbers (g.T.Form.data_of v)) (take l.item-index l.items))
