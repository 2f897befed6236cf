use Rattle.tool_jobs.proofs.Runs.{Seen}
use Rattle.tool_jobs.proofs.balance.first_unequal.Given as goal

abbrev pub invariant-loop-tally : goal.invariant-loop-tally
invariant-loop-tally l = Seen l.tallies l.tally-index l.number l.taken l.given
