use Rattle.std.proofs.Common.{◌≡◌, Some, length}
use Rattle.std.specs.Prelude.{slice_get}
use Rattle.commit_core.specs.Space.{EachOf}
use Rattle.plain_pcs.specs.Cosets.{IsOnCoset}
use Rattle.plain_pcs.proofs.committing.with_cosets.Given as goal

abbrev pub invariant-loop-matrix : goal.invariant-loop-matrix
invariant-loop-matrix g l =
    EachOf (length l.yielded) l.evaluated.items (λ i e. (m : _) → slice_get l.fn.matrices.items i ≡ Some m → IsOnCoset g.F.FieldCore.GENERATOR m e)
