use Rattle.std.specs.Prelude.{All}
use Rattle.cases_air.specs.Taken.{IsSendableByColumn}
use Rattle.cases_air.proofs.lookups.tuple_of.Given as goal

abbrev pub invariant-loop-letter : goal.invariant-loop-letter
invariant-loop-letter l = All IsSendableByColumn l.fields.items
