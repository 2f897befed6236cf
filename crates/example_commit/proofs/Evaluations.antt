-- Values of committed polynomials on another domain.
use Rattle.std.proofs.Common.{◌≡◌, ◌∙◌, ℕ, ◌<◌, List, [], Some, length, get_or, arith}
use Rattle.std.specs.Prelude.{slice_get}
use Rattle.p3_field.specs.Ring.{Ring}
use Rattle.p3_matrix.specs.Matrix.{Rows}
use Rattle.commit_core.specs.Commitments.{Committed, IsCommitment, IsEvaluated}
use Rattle.example_commit.specs.Extended.{AreExtended}
use Rattle.example_commit.proofs.Lists.{item_at}
use Rattle.std.proofs.lemmas.Option.{slice_get_within}

module _ {F D C P : Type 0} (r : Ring F) (points : D → ℕ) (point_at : D → ℕ → F) (commits : List (D × Rows F) → C → Type 0) (made : P → Type 0) (holds : P → C → List (Committed F) → Type 0) where
  pub within : (evaluations : List (D × Rows F)) (w : C × P) (i n : ℕ) → IsCommitment r points point_at commits made holds evaluations w → ((cs : List (Committed F)) → holds w.1 w.0 cs → length cs ≡ n) → i < length evaluations → i < n
  within evaluations w i n K count h =
      let (cs, are, held) = K.held in
      omega (arith, count cs held, are.count)

  pub evaluated : (evaluations : List (D × Rows F)) (w : C × P) (i : ℕ) (d : D) (m v : Rows F) (n : ℕ) (q : ℕ → F) → IsCommitment r points point_at commits made holds evaluations w → slice_get evaluations i ≡ Some (d, m)
      → ((commitment : C) (cs : List (Committed F)) (c : Committed F) → holds w.1 commitment cs → slice_get cs i ≡ Some c → IsEvaluated r n q c v)
      → AreExtended r (point_at d) m n q v
  evaluated evaluations w i d m v n q K e values =
      let (cs, are, held) = K.held in
      let (c, a) = item_at cs i (omega (arith, slice_get_within evaluations i (d, m) e, are.count)) in
      let there = are.each i c a (d, m) e in
      let here = values w.0 cs c held a in
      let wide : v.width ≡ m.width = here.width_is ∙ there.count in
      record {
        width_is = wide;
        each = λ j b. record {
          interpolant = get_or c.polynomials j [];
          interpolates = there.each j b;
          values_are = here.column_is j (omega (arith, wide));
        };
      }
