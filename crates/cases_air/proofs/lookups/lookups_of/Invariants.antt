use Rattle.std.specs.Prelude.{All}
use Rattle.cases_air.specs.Taken.{IsTakenLookup}
use Rattle.cases_air.proofs.lookups.lookups_of.Given as goal

abbrev pub invariant-loop-word : goal.invariant-loop-word
invariant-loop-word l = All IsTakenLookup l.lookups.items
