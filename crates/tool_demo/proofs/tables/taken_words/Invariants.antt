use Rattle.std.proofs.Common.{◌≡◌, map, take}
use Rattle.tool_demo.specs.Demo.{element_of}
use Rattle.tool_demo.proofs.tables.taken_words.Given as goal

abbrev pub invariant-loop-number : goal.invariant-loop-number
invariant-loop-number l = l.words.items ≡ map element_of (take l.number-index l.numbers)
