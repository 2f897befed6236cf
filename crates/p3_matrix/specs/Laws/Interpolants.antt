-- The value of an interpolant anywhere, as a sum of the values times weights without a division.
use Rattle.std.proofs.Common.{◌≡◌, ℕ, zero, suc, ◌+◌, ◌^◌, ◌≤◌, ◌<◌, List, length, get_or, map, sym, ◌∙◌, ap, arith}
use Rattle.p3_field.specs.Ring.{Ring, RingLaws, pow, of_nat}
use Rattle.p3_field.specs.Field.{FieldLaws, RingHom, TwoAdicLaws}
use Rattle.p3_field.specs.Poly.{eval_poly, tabulate, total, Apart}
use Rattle.p3_field.specs.Domain.{coset_point, IsInterpolant}
use Rattle.p3_field.specs.Laws.Algebra.{one_mul}
use Rattle.p3_field.specs.Laws.Sums.{total_same, total_scale}
use Rattle.p3_field.specs.Laws.Roots.{NoZeroDivisors, same_values_list}
use Rattle.p3_field.specs.Laws.Transform.{inverse_coeff, inverse_transform, inverse_transform_at}
use Rattle.p3_field.specs.Laws.TwoAdic.{two_adic_inverses, coset_interpolant, coset_interpolant_value}
use Rattle.p3_field.specs.Laws.Extended.{hom_pow}
use Rattle.p3_field.specs.Laws.SubgroupSelectors.{map_tabulate}
use Rattle.p3_field.specs.Laws.Tabulate.{length-tabulate, get_or-tabulate, tabulate_same}
use Rattle.p3_matrix.specs.Matrix.{Rows, height, cell_at, column}
use Rattle.p3_matrix.specs.Interpolation.{IsInterpolatedAt, weight_at}
use Rattle.p3_matrix.specs.Laws.Cells.{length-column, get_or-column}

-- the value is that of every interpolant, since there is one alone
pub value_of_interpolant : {A B : Type 0} (r : Ring A) (L : RingLaws r) (N : NoZeroDivisors r) (s : Ring B) (embed : A → B) (p : ℕ → A) (v f : List A) (x y : B)
    → Apart (length v) p → IsInterpolatedAt r s embed p v x y → IsInterpolant r p v f → y ≡ eval_poly s (map embed f) x
value_of_interpolant r L N s embed p v f x y apart I J =
    let g = I.interpolant in
    let same : g ≡ f = same_values_list r L N (length v) p g f apart I.interpolates.length_is J.length_is (λ i h. I.interpolates.value_is i h ∙ sym (J.value_is i h)) in
    I.value_is ∙ ap (λ l. eval_poly s (map embed l) x) same

module _ {B : Type 0} (s : Ring B) (M : RingLaws s) where
  -- g^i u from i to the next
  pub next_ratio : (step ratio : B) (i : ℕ) → s.mul step (s.mul (pow s step i) ratio) ≡ s.mul (pow s step (i + 1)) ratio
  unfolding pow
  next_ratio step ratio i =
      let e : i + 1 ≡ suc i = omega arith in
      sym (M.mul_assoc step (pow s step i) ratio) ∙ ap (λ n. s.mul (pow s step n) ratio) (sym e)

  pub first_ratio : (step ratio : B) → ratio ≡ s.mul (pow s step 0) ratio
  unfolding pow
  first_ratio step ratio = sym (one_mul s M ratio)

  pub weight_is : (n : ℕ) (m g u : B) (i : ℕ) (w sum y : B) → w ≡ s.mul (pow s g i) u → sum ≡ total s n (λ j. pow s w j) → y ≡ s.mul m sum → y ≡ weight_at s n m g u i
  unfolding weight_at
  weight_is n m g u i w sum y a b c = cc (a, b, c)

module _ {A B : Type 0} (r : Ring A) (L : RingLaws r) (s : Ring B) (M : RingLaws s) (f : A → B) (H : RingHom r s f) where
  hom_total : (n : ℕ) (t : ℕ → A) → f (total r n t) ≡ total s n (λ i. f (t i))
  hom_total zero t = H.keeps_zero
  hom_total (suc n) t = H.keeps_add (t zero) (total r n (λ i. t (suc i))) ∙ ap (s.add (f (t zero))) (hom_total n (λ i. t (suc i)))

  hom_inverse_coeff : (n : ℕ) (m t g : A) (v : ℕ → A) (j : ℕ) → f (inverse_coeff r n m t g v j) ≡ inverse_coeff s n (f m) (f t) (f g) (λ i. f (v i)) j
  hom_inverse_coeff n m t g v j =
      let S = total r n (λ i. r.mul (v i) (pow r (pow r g i) j)) in
      let terms : f S ≡ total s n (λ i. s.mul (f (v i)) (pow s (pow s (f g) i) j)) =
      hom_total n (λ i. r.mul (v i) (pow r (pow r g i) j))
      ∙ total_same s M n (λ i. f (r.mul (v i) (pow r (pow r g i) j))) (λ i. s.mul (f (v i)) (pow s (pow s (f g) i) j))
      (λ i h. H.keeps_mul (v i) (pow r (pow r g i) j) ∙ ap (s.mul (f (v i))) (hom_pow r L s M f H (pow r g i) j ∙ ap (λ z. pow s z j) (hom_pow r L s M f H g i))) in
      cc (H.keeps_mul m (r.mul (pow r t j) S), H.keeps_mul (pow r t j) S, hom_pow r L s M f H t j, terms)

  map_inverse_transform : (n : ℕ) (m t g : A) (v : ℕ → A) → map f (inverse_transform r n m t g v) ≡ inverse_transform s n (f m) (f t) (f g) (λ i. f (v i))
  map_inverse_transform n m t g v =
      map_tabulate f n (inverse_coeff r n m t g v)
      ∙ tabulate_same n (λ j. f (inverse_coeff r n m t g v j)) (inverse_coeff s n (f m) (f t) (f g) (λ i. f (v i))) (λ j b. hom_inverse_coeff n m t g v j)

  weighted_sum : (k : ℕ) (m t g a : A) (x : B) (v : ℕ → A) → r.mul t a ≡ r.one
      → eval_poly s (map f (inverse_transform r (2 ^ k) m t g v)) x ≡ total s (2 ^ k) (λ i. s.mul (f (v i)) (weight_at s (2 ^ k) (f m) (f g) (s.mul (f t) x) i))
  unfolding weight_at
  weighted_sum k m t g a x v e =
      let n = 2 ^ k in
      let K = s.mul (f t) x in
      let unit : s.mul (f t) (f a) ≡ s.one = sym (H.keeps_mul t a) ∙ (ap f e ∙ H.keeps_one) in
      let at : s.mul (f a) K ≡ x = cc (M.mul_assoc (f a) (f t) x, M.mul_comm (f a) (f t), unit, one_mul s M x) in
      let w : ℕ → B = λ i. s.mul (pow s (f g) i) K in
      let inner : ℕ → B = λ i. s.mul (f (v i)) (total s n (λ j. pow s (w i) j)) in
      let moved : (i : ℕ) → s.mul (f m) (inner i) ≡ s.mul (f (v i)) (weight_at s n (f m) (f g) K i) = λ i.
      let P = total s n (λ j. pow s (w i) j) in
      cc (M.mul_assoc (f m) (f (v i)) P, M.mul_comm (f m) (f (v i)), M.mul_assoc (f (v i)) (f m) P) in
      ap (λ l. eval_poly s l x) (map_inverse_transform n m t g v)
      ∙ (ap (eval_poly s (inverse_transform s n (f m) (f t) (f g) (λ i. f (v i)))) (sym at)
      ∙ (inverse_transform_at s M n (f a) (f m) (f t) (f g) K (λ i. f (v i)) unit
      ∙ (sym (total_scale s M n (f m) inner)
      ∙ total_same s M n (λ i. s.mul (f m) (inner i)) (λ i. s.mul (f (v i)) (weight_at s n (f m) (f g) K i)) (λ i h. moved i))))

  module _ (inv : A → A) (W : FieldLaws r inv) (top : ℕ) (root : ℕ → A) (T : TwoAdicLaws r top root) where
    -- the sum of the values times their weights is the interpolant's value, on the coset too
    pub interpolated_by_weights : (k : ℕ) (a : A) (v : List A) (x y : B) → k ≤ top → (a ≡ r.zero → ⊥) → length v ≡ 2 ^ k
        → y ≡ total s (2 ^ k) (λ i. s.mul (f (get_or v i r.zero)) (weight_at s (2 ^ k) (f (inv (of_nat r (2 ^ k)))) (f (inv (root k))) (s.mul (f (inv a)) x) i))
        → IsInterpolatedAt r s f (coset_point r a (root k)) v x y
    interpolated_by_weights k a v x y h nz e d =
        let u : ℕ → A = λ i. get_or v i r.zero in
        let g = coset_interpolant r L inv W top root T k a h nz u in
        let I = two_adic_inverses r L inv W top root T k a h nz in
        record {
          interpolant = g;
          interpolates = record {
            length_is = length-tabulate (2 ^ k) (inverse_coeff r (2 ^ k) (inv (of_nat r (2 ^ k))) (inv a) (inv (root k)) u) ∙ sym e;
            value_is = λ i b. coset_interpolant_value r L inv W top root T k a h nz u i (omega arith);
          };
          value_is = d ∙ sym (weighted_sum k (inv (of_nat r (2 ^ k))) (inv a) (inv (root k)) a x u I.of_shift);
        }

    -- the same of a column of a matrix
    pub interpolated_column : (k : ℕ) (a : A) (m : Rows A) (j : ℕ) (x : B) (ws : List B) (y : B) → k ≤ top → (a ≡ r.zero → ⊥) → height m ≡ 2 ^ k
        → ws ≡ tabulate (2 ^ k) (weight_at s (2 ^ k) (f (inv (of_nat r (2 ^ k)))) (f (inv (root k))) (s.mul (f (inv a)) x))
        → y ≡ total s (height m) (λ i. s.mul (f (cell_at r.zero m i j)) (get_or ws i s.zero))
        → IsInterpolatedAt r s f (coset_point r a (root k)) (column r.zero m j) x y
    interpolated_column k a m j x ws y h nz e w d =
        let n = 2 ^ k in
        let W : ℕ → B = weight_at s n (f (inv (of_nat r n))) (f (inv (root k))) (s.mul (f (inv a)) x) in
        let v = column r.zero m j in
        interpolated_by_weights k a v x y h nz (length-column r.zero m j ∙ e)
        (d ∙ (total_same s M (height m) (λ i. s.mul (f (cell_at r.zero m i j)) (get_or ws i s.zero)) (λ i. s.mul (f (get_or v i r.zero)) (W i))
        (λ i b. let c : i < n = omega arith in
        cc (get_or-column r.zero m j i b, w, get_or-tabulate n W i s.zero c))
        ∙ ap (λ l. total s l (λ i. s.mul (f (get_or v i r.zero)) (W i))) e))
