-- The values of held polynomials on a domain.
use Rattle.std.proofs.Common.{◌≡◌, ℕ, zero, suc, ◌^◌, ◌<◌, ◌≤◌, List, [], ◌∷◌, Some, length, get_or, subst, sym, ◌∙◌, arith}
use Rattle.std.specs.Prelude.{slice_get, zip}
use Rattle.std.proofs.Math.Pow.{pow_mono}
use Rattle.p3_field.specs.Domain.{CosetData, point}
use Rattle.p3_matrix.specs.Matrix.{Rows, height}
use Rattle.commit_core.specs.Commitments.{Committed, IsEvaluated}
use Rattle.plain_pcs.specs.Scheme.{Scheme, PlainCommitmentData}
use Rattle.plain_pcs.specs.Holding.{IsMade, IsHolding, AreHolding}
use Rattle.plain_pcs.specs.Transfer.{IsTransfer}

-- an item and the one at its place
slice_get-zip_at : {X Y : Type 0} (xs : List X) (ys : List Y) (i : ℕ) (x : X) → length xs ≡ length ys → slice_get xs i ≡ Some x → (y : Y) × (slice_get (zip xs ys) i ≡ Some (x, y))
slice_get-zip_at [] ys i x e h = cc
slice_get-zip_at (z ∷ xs) [] i x e h = absurd (omega arith)
slice_get-zip_at (z ∷ xs) (w ∷ ys) zero x e h = (w, cc)
slice_get-zip_at (z ∷ xs) (w ∷ ys) (suc i) x e h = let d : length xs ≡ length ys = omega arith in slice_get-zip_at xs ys i x d h

module _ {F : Type 0} (s : Scheme F) where
  pub evaluated_held : (d : CosetData F × Rows F) (l : Rows F) (c : Committed F) (to : CosetData F) (m : Rows F) → IsHolding s d l c → IsTransfer s.field.ring s.field.root d.0 to d.1 m
      → IsEvaluated s.field.ring (2 ^ to.log_size) (point s.field.ring s.field.root to) c m
  evaluated_held d l c to m I T = record {
    width_is = T.width_is ∙ sym I.count;
    column_is = λ j b.
        let across : j < d.1.width = omega (arith, T.width_is) in
        let one : j < length c.polynomials = omega (arith, I.count) in
        let wide : 2 ^ I.log_size ≤ 2 ^ d.0.log_size = pow_mono (let n : I.log_size ≤ d.0.log_size = omega (arith, I.larger) in n) in
        let short : length (get_or c.polynomials j []) ≤ 2 ^ d.0.log_size = omega (arith, I.lengths j [] one, I.size_is, wide) in
        T.column_is j (get_or c.polynomials j []) across short (I.values_are j across);
  }

  pub evaluated : (items : List (CosetData F × Rows F)) (commitment : PlainCommitmentData F) (cs : List (Committed F)) (idx : ℕ) (d : CosetData F × Rows F) (c : Committed F) (to : CosetData F) (m : Rows F)
      → AreHolding s items commitment cs → slice_get items idx ≡ Some d → slice_get cs idx ≡ Some c → IsTransfer s.field.ring s.field.root d.0 to d.1 m
      → IsEvaluated s.field.ring (2 ^ to.log_size) (point s.field.ring s.field.root to) c m
  evaluated items commitment cs idx d c to m H at held T =
      let (l, pair) = slice_get-zip_at items commitment.matrices idx d H.count at in
      evaluated_held d l c to m (H.each.each idx c held (d, l) pair) T

-- the height of kept values
pub made_height : {F : Type 0} (items : List (CosetData F × Rows F)) (idx : ℕ) (e : CosetData F × Rows F) → IsMade items → idx < length items → e ≡ get_or items idx e → height e.1 ≡ 2 ^ e.0.log_size
made_height {F} items idx e made h at = subst (λ (x : CosetData F × Rows F). height x.1 ≡ 2 ^ x.0.log_size) (sym at) (made idx e h).1
