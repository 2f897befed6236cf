use Rattle.std.proofs.Common.{◌≡◌}
use Rattle.cases_air.specs.Cells.{eight_of_each}
use Rattle.cases_air.proofs.programs.is_run.Given as goal

abbrev pub invariant-loop-word : goal.invariant-loop-word
invariant-loop-word g l = g.AB.AirBuilder.shape l.builder ≡ eight_of_each
