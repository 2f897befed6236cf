use Rattle.std.proofs.Common.{ℕ, ◌<◌, get_or, None}
use Rattle.batch_statement.specs.Statement.{IsPlaced}
use Rattle.batch_statement.proofs.entries.are_placed.Given as goal

abbrev pub invariant-loop-i : goal.invariant-loop-i
invariant-loop-i l = (k : ℕ) → k < l.i → IsPlaced l.listed k (get_or l.entries k None)
