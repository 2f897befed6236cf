use Rattle.std.proofs.Common.{◌≡◌, take}
use Rattle.plain_pcs.proofs.commitment.copied_matrices.Given as goal

abbrev pub invariant-loop-matrix : goal.invariant-loop-matrix
invariant-loop-matrix g l = l.copies.items ≡ take l.matrix-index l.matrices
