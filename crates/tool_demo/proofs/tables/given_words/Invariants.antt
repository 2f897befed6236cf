use Rattle.std.proofs.Common.{◌≡◌, map}
use Rattle.tool_demo.specs.Demo.{given_pairs}
use Rattle.tool_jobs.specs.Jobs.{read_given}
use Rattle.tool_demo.proofs.tables.given_words.Given as goal

abbrev pub invariant-loop-number : goal.invariant-loop-number
invariant-loop-number l = map read_given l.words.items ≡ given_pairs l.number l.numbers
