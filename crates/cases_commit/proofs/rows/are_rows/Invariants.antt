use Rattle.std.proofs.Common.{take}
use Rattle.std.specs.Prelude.{All}
use Rattle.commit_rows.specs.Batches.{IsRowOf}
use Rattle.cases_commit.proofs.rows.are_rows.Given as goal

abbrev pub invariant-loop-index : goal.invariant-loop-index
invariant-loop-index g l = All (IsRowOf l.matrices) (take l.index-index l.indices)
