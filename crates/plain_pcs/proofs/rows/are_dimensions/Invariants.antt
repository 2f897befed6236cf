use Rattle.std.proofs.Common.{◌≡◌, take}
use Rattle.std.specs.Prelude.{All}
use Rattle.std.specs.Int.{IsPowerOfTwo}
use Rattle.p3_matrix.specs.Matrix.{height}
use Rattle.commit_rows.specs.Batches.{dimensions_of}
use Rattle.plain_pcs.proofs.rows.are_dimensions.Given as goal

abbrev pub invariant-loop-i : goal.invariant-loop-i
invariant-loop-i g l = (take l.i l.dimensions ≡ dimensions_of (take l.i l.matrices)) × All (λ m. IsPowerOfTwo (height m)) (take l.i l.matrices)
