use Rattle.std.proofs.Common.{◌≡◌, ◌++◌, map, take}
use Rattle.tool_jobs.specs.Jobs.{read_given}
use Rattle.tool_jobs.specs.Tallies.{given_often}
use Rattle.tool_jobs.proofs.balance.push_given.Given as goal

abbrev pub invariant-loop-given : goal.invariant-loop-given
invariant-loop-given l = l.tallies.items ≡ l.initial.tallies.items ++ map given_often (map read_given (take l.given-index l.words))
