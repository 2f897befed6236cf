-- The transforms from coefficients to values and from values to coefficients are inverse to each other.
use Rattle.std.proofs.Common.{◌≡◌, ℕ, zero, suc, ◌/◌, ◌^◌, ◌≤◌, ◌<◌, List, length, get_or, sym, ◌∙◌, ap, arith}
use Rattle.std.proofs.lemmas.List.{ext_get_or}
use Rattle.std.proofs.lemmas.Nat.{pow_pos}
use Rattle.std.proofs.Math.Nat.{div-zero}
use Rattle.p3_field.specs.Ring.{Ring, RingLaws}
use Rattle.p3_field.specs.Field.{FieldLaws, TwoAdicLaws}
use Rattle.p3_field.specs.Domain.{coset_point, IsInterpolant}
use Rattle.p3_field.specs.Laws.Interpolants.{interpolant_unique, points_apart}
use Rattle.p3_matrix.specs.Matrix.{Rows, FillsRows, height, column}
use Rattle.p3_matrix.specs.Laws.Cells.{length-column, same_matrix}
use Rattle.p3_dft.specs.Transform.{values_at, IsTransformOf, IsInverseTransformOf}
use Rattle.p3_dft.specs.Laws.Values.{length-values_at, get_or-values_at}

-- a matrix with rows has columns
positive_width : {A : Type 0} (xs : List A) (w k : ℕ) → length xs / w ≡ 2 ^ k → 0 < w
positive_width xs zero k e = let z : length xs / zero ≡ zero = div-zero (length xs) in absurd (omega (arith, pow_pos k, e, z))
positive_width xs (suc w) k e = omega arith

module _ {A : Type 0} (r : Ring A) (root : ℕ → A) where
  abbrev points : ℕ → ℕ → A
  points k = coset_point r r.one (root k)

  -- a matrix whose columns are those of m has m's height
  same_height : (m w : Rows A) (k : ℕ) → height m ≡ 2 ^ k → ((j : ℕ) → j < m.width → column r.zero w j ≡ column r.zero m j) → height w ≡ height m
  same_height m w k size columns =
      sym (length-column r.zero w 0) ∙ (ap length (columns 0 (positive_width m.values m.width k size)) ∙ length-column r.zero m 0)

  values_height : (m v : Rows A) (k : ℕ) → height m ≡ 2 ^ k → IsTransformOf r root m v → (j : ℕ) → j < m.width → height v ≡ 2 ^ k
  values_height m v k size V j b =
      sym (length-column r.zero v j) ∙ (ap length (V.column_is j k b size) ∙ length-values_at r (points k) (2 ^ k) (column r.zero m j))

  -- from values to coefficients and back: the columns are those of the beginning
  pub values_of_coefficients_by_columns : (m w v : Rows A) (k : ℕ) → height m ≡ 2 ^ k → IsInverseTransformOf r root m w → IsTransformOf r root w v
      → (j : ℕ) → j < m.width → column r.zero v j ≡ column r.zero m j
  values_of_coefficients_by_columns m w v k size C V j b =
      let f = column r.zero w j in
      let I : IsInterpolant r (points k) (column r.zero m j) f = C.column_is j k b size in
      let n : length (column r.zero m j) ≡ 2 ^ k = length-column r.zero m j ∙ size in
      let tall : height w ≡ 2 ^ k = sym (length-column r.zero w j) ∙ (I.length_is ∙ n) in
      let is : column r.zero v j ≡ values_at r (points k) (2 ^ k) f = V.column_is j k (omega (arith, b, C.width_is)) tall in
      let count : length (column r.zero v j) ≡ 2 ^ k = ap length is ∙ length-values_at r (points k) (2 ^ k) f in
      ext_get_or r.zero (column r.zero v j) (column r.zero m j) (count ∙ sym n)
      (λ i h. ap (λ l. get_or l i r.zero) is ∙ (get_or-values_at r (points k) (2 ^ k) f i r.zero (omega (arith, h, count)) ∙ I.value_is i (omega (arith, h, count, n))))

  -- and so is the matrix
  pub values_of_coefficients : (m w v : Rows A) (k : ℕ) → height m ≡ 2 ^ k → FillsRows m.values m.width → FillsRows v.values v.width
      → IsInverseTransformOf r root m w → IsTransformOf r root w v → v ≡ m
  values_of_coefficients m w v k size fills filled C V =
      let columns = values_of_coefficients_by_columns m w v k size C V in
      same_matrix r.zero m v fills filled (V.width_is ∙ C.width_is) (same_height m v k size columns) columns

  module _ (L : RingLaws r) (inv : A → A) (W : FieldLaws r inv) (top : ℕ) (T : TwoAdicLaws r top root) where
    -- from coefficients to values and back: the columns are those of the beginning
    pub coefficients_of_values_by_columns : (m v w : Rows A) (k : ℕ) → k ≤ top → height m ≡ 2 ^ k → IsTransformOf r root m v → IsInverseTransformOf r root v w
        → (j : ℕ) → j < m.width → column r.zero w j ≡ column r.zero m j
    coefficients_of_values_by_columns m v w k fits size V C j b =
        let tall = values_height m v k size V j b in
        let inside : j < v.width = omega (arith, b, V.width_is) in
        let n : length (column r.zero v j) ≡ 2 ^ k = length-column r.zero v j ∙ tall in
        let own : IsInterpolant r (points k) (column r.zero v j) (column r.zero m j) = record {
          length_is = length-column r.zero m j ∙ (size ∙ sym n);
          value_is = λ i h. sym (ap (λ l. get_or l i r.zero) (V.column_is j k b size) ∙ get_or-values_at r (points k) (2 ^ k) (column r.zero m j) i r.zero (omega (arith, h, n)));
        } in
        interpolant_unique r L inv W (points k) (column r.zero v j) (column r.zero w j) (column r.zero m j)
        (λ a c x y. points_apart r L inv W top root T (record { shift = r.one; log_size = k }) fits W.one_differs a c x (omega (arith, y, n)))
        (C.column_is j k inside tall) own

    -- and so is the matrix
    pub coefficients_of_values : (m v w : Rows A) (k : ℕ) → k ≤ top → height m ≡ 2 ^ k → FillsRows m.values m.width → FillsRows w.values w.width
        → IsTransformOf r root m v → IsInverseTransformOf r root v w → w ≡ m
    coefficients_of_values m v w k fits size fills filled V C =
        let columns = coefficients_of_values_by_columns m v w k fits size V C in
        same_matrix r.zero m w fills filled (C.width_is ∙ V.width_is) (same_height m w k size columns) columns
