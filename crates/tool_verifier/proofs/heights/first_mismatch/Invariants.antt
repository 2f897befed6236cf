use Rattle.std.proofs.Common.{◌<◌, ℕ}
use Rattle.tool_statement.specs.StatedTables.{HasStatedHeight}
use Rattle.tool_verifier.proofs.heights.first_mismatch.Given as goal

abbrev pub invariant-loop-i : goal.invariant-loop-i
invariant-loop-i l = (j : ℕ) → j < l.i → HasStatedHeight l.tables l.degree_bits j
