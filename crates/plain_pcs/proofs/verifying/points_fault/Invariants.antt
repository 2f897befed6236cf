use Rattle.std.proofs.Common.{◌≡◌, ◌<◌, ℕ, Some, map}
use Rattle.std.specs.Prelude.{slice_get}
use Rattle.p3_matrix.specs.Matrix.{Rows}
use Rattle.plain_pcs.specs.Scheme.{Scheme}
use Rattle.p3_field.specs.Checks.{NoneFails}
use Rattle.plain_pcs.specs.Checks.{point_checks}
use Rattle.plain_pcs.specs.Faults.{AreColumnPolynomials}
use Rattle.plain_pcs.proofs.verifying.points_fault.Given as goal

abbrev pub invariant-loop-point : goal.invariant-loop-point
invariant-loop-point g l =
    (s : Scheme g.row.F.Denot) (m : Rows g.row.F.Denot) (k : ℕ) → AreColumnPolynomials s m k (map (λ f. f.items) l.polynomials) → (i : ℕ) (x : _) → i < l.point → slice_get l.points i ≡ Some x
    → NoneFails (point_checks s g.E.RingCore.ring g.E.ExtensionField.embed l.round l.matrix m k i x)
