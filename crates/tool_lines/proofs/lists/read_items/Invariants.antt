use Rattle.std.proofs.Common.{◌≡◌, ◌++◌, length}
use Rattle.std.specs.Prelude.{All, map}
use Rattle.tool_lines.specs.Texts.{line_text, items_numbers}
use Rattle.tool_lines.proofs.lists.read_items.Given as goal

abbrev pub invariant-loop : goal.invariant-loop
invariant-loop g l = record {
  text : l.fn.reader ≡ line_text (items_numbers g.T.Form.numbers (map g.T.Form.data_of l.items.items)) ++ l.reader;
  fits : All g.T.Form.within (map g.T.Form.data_of l.items.items);
  counted : length (map g.T.Form.data_of l.items.items) ≡ l.counter;
}
