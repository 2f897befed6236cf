use Rattle.std.proofs.Common.{ℕ, ◌<◌, get_or}
use Rattle.commit_rows.specs.Batches.{lists}
use Rattle.plain_pcs.specs.PlainMmcs.{AreTheRows}
use Rattle.plain_pcs.proofs.plain_mmcs.are_all_the_rows.Given as goal

abbrev pub invariant-loop-i : goal.invariant-loop-i
invariant-loop-i g l = (j : ℕ) (index : ℕ) (rows : _) → j < l.i → AreTheRows g.T.PartialEq.eq l.matrices (get_or l.indices j index) (lists (get_or l.openings j rows).items)
