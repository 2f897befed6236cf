use Rattle.std.proofs.Common.{◌≡◌, ◌++◌, map, take}
use Rattle.tool_jobs.specs.Tallies.{taken_once}
use Rattle.tool_jobs.proofs.balance.push_taken.Given as goal

abbrev pub invariant-loop-word : goal.invariant-loop-word
invariant-loop-word l = l.tallies.items ≡ l.initial.tallies.items ++ map taken_once (take l.word-index l.words)
