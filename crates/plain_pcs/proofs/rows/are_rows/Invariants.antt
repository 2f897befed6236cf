use Rattle.std.proofs.Common.{ℕ, ◌<◌, get_or}
use Rattle.p3_matrix.specs.Matrix.{height}
use Rattle.commit_rows.specs.Batches.{row_in}
use Rattle.plain_pcs.specs.PlainMmcs.{IsRowByEq}
use Rattle.plain_pcs.proofs.rows.are_rows.Given as goal

abbrev pub invariant-loop-i : goal.invariant-loop-i
invariant-loop-i g l = (j : ℕ) (m : _) (row : _) → j < l.i → IsRowByEq g.T.PartialEq.eq (row_in l.most (height (get_or l.matrices j m)) l.index) (get_or l.matrices j m) (get_or l.rows j row).items
