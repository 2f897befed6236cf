use Rattle.std.proofs.Common.{ℕ, ◌<◌, length, get_or}
use Rattle.commit_core.specs.Periodic.{IsPeriod}
use Rattle.commit_core.proofs.periodic.PeriodicColumns.new.Given as goal

abbrev pub invariant-loop-index : goal.invariant-loop-index
invariant-loop-index g l = (k : ℕ) (d : _) → k < l.index → IsPeriod l.height (length (get_or l.columns k d).items)
