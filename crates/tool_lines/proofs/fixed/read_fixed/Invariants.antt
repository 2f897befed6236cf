use Rattle.std.proofs.Common.{◌≡◌, ◌++◌, take}
use Rattle.tool_lines.specs.Texts.{line_text}
use Rattle.tool_lines.proofs.fixed.read_fixed.Given as goal

abbrev pub invariant-loop-number : goal.invariant-loop-number
invariant-loop-number l = l.fn.reader ≡ line_text (take l.number-index l.numbers) ++ l.reader
