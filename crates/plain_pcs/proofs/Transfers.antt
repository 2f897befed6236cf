-- Values of polynomials taken from one coset to another by a transform over the subgroup.
use Rattle.std.proofs.Common.{◌≡◌, ℕ, ◌+◌, ◌-◌, ◌*◌, ◌/◌, ◌^◌, ◌<◌, ◌≤◌, List, length, get_or, refl, sym, ◌∙◌, ap, arith}
use Rattle.std.proofs.Math.Nat.{mul-div_cancel, mul-lt-mul_of_pos_left}
use Rattle.std.proofs.Math.Pow.{pow_mono}
use Rattle.std.proofs.lemmas.Nat.{pow-add, pow_pos}
use Rattle.std.proofs.lemmas.List.{ext_get_or}
use Rattle.p3_field.specs.Ring.{Ring, RingLaws, pow}
use Rattle.p3_field.specs.Field.{FieldLaws, TwoAdicLaws}
use Rattle.p3_field.specs.Poly.{eval_poly, SamePoly, shift_arg}
use Rattle.p3_field.specs.Domain.{CosetData, coset_point, point, IsInterpolant}
use Rattle.p3_field.specs.Laws.Algebra.{one_mul, mul_zero}
use Rattle.p3_field.specs.Laws.Coeffs.{degree_length_le, length_shift_arg}
use Rattle.p3_field.specs.Laws.Values.{eval_same, eval_shift_arg}
use Rattle.p3_field.specs.Laws.Roots.{field_no_zero_divisors, same_values}
use Rattle.p3_field.specs.Laws.Coset.{coset_apart, two_adic_order}
use Rattle.p3_field.specs.Laws.Tabulate.{tabulate_same, first_coset_point}
use Rattle.p3_matrix.specs.Matrix.{Rows, height, column}
use Rattle.p3_matrix.specs.Laws.Cells.{length-column, get_or-column}
use Rattle.p3_matrix.specs.Laws.Transposed.{get_or-row_at}
use Rattle.p3_dft.specs.Transform.{values_at, IsExtensionOf}
use Rattle.p3_dft.specs.Laws.Values.{length-values_at, get_or-values_at}
use Rattle.commit_core.specs.Space.{IsPart, IsSplit}
use Rattle.p3_matrix.specs.Laws.Cells.{width_positive}
use Rattle.commit_core.specs.Laws.Cosets.{points_of_part}
use Rattle.commit_rows.specs.Laws.FlatBatches.{product_cancel}
use Rattle.plain_pcs.specs.Transfer.{IsTransfer}

-- the larger of two subgroups is one of the field's
pub largest_fits : (h k l top : ℕ) → h ≡ 2 ^ k → k ≤ l → l ≤ top → h * 2 ^ (l - k) ≤ 2 ^ top
largest_fits h k l top e a b =
    let sum : k + (l - k) ≡ l = omega arith in
    let size : h * 2 ^ (l - k) ≡ 2 ^ l = ap (λ n. n * 2 ^ (l - k)) e ∙ (sym (pow-add 2 k (l - k)) ∙ ap (λ n. 2 ^ n) sum) in
    let low : 2 ^ l ≤ 2 ^ top = pow_mono b in
    omega arith

-- a smaller power divides
pub stride_divides : (h k l : ℕ) → h ≡ 2 ^ k → l ≤ k → h / 2 ^ (k - l) * 2 ^ (k - l) ≡ h
stride_divides h k l e a =
    let sum : l + (k - l) ≡ k = omega arith in
    let size : h ≡ 2 ^ l * 2 ^ (k - l) = e ∙ (ap (λ n. 2 ^ n) (sym sum) ∙ pow-add 2 l (k - l)) in
    let quotient : h / 2 ^ (k - l) ≡ 2 ^ l = ap (λ n. n / 2 ^ (k - l)) size ∙ mul-div_cancel (2 ^ l) (pow_pos (k - l)) in
    ap (λ n. n * 2 ^ (k - l)) quotient ∙ sym size

module _ {A : Type 0} (r : Ring A) (L : RingLaws r) where
  -- the polynomial that has on a subgroup the values that f has on its coset with shift a
  at_subgroup : (a x : A) (f : List A) → eval_poly r (shift_arg r a f) (r.mul r.one x) ≡ eval_poly r f (r.mul a x)
  at_subgroup a x f = eval_shift_arg r L a f (r.mul r.one x) ∙ ap (λ y. eval_poly r f (r.mul a y)) (one_mul r L x)

module _ {A : Type 0} (r : Ring A) (L : RingLaws r) (inv : A → A) (W : FieldLaws r inv) (top : ℕ) (root : ℕ → A) (T : TwoAdicLaws r top root) where
  -- the shift s / a, times a
  divided : (a s x : A) → (a ≡ r.zero → ⊥) → r.mul a (r.mul (r.mul s (inv a)) x) ≡ r.mul s x
  divided a s x nz =
      let b = inv a in
      cc (L.mul_assoc a (r.mul s b) x, L.mul_comm s b, L.mul_assoc a b s, W.mul_inv a nz, one_mul r L s)

  -- the quotient of the shifts
  ratio_is : (d e : CosetData A) (x y s : A) → s ≡ r.mul x y → x ≡ e.shift → y ≡ inv d.shift → s ≡ r.mul e.shift (inv d.shift)
  ratio_is d e x y s is p q = cc (is, p, q)

  -- the shift isn't zero
  pub ratio_not_zero : (d e : CosetData A) (x y s : A) → (d.shift ≡ r.zero → ⊥) → (e.shift ≡ r.zero → ⊥) → s ≡ r.mul x y → x ≡ e.shift → y ≡ inv d.shift → s ≡ r.zero → ⊥
  ratio_not_zero d e x y s nd ne is p q zero =
      let z : inv d.shift ≡ r.zero = field_no_zero_divisors r L inv W e.shift (inv d.shift) ne (sym (ratio_is d e x y s is p q) ∙ zero) in
      W.one_differs (sym (W.mul_inv d.shift nd) ∙ (ap (r.mul d.shift) z ∙ mul_zero r L d.shift))

  same_polynomial : (k : ℕ) (a : A) (v f g : List A) → k ≤ top → length v ≡ 2 ^ k → length f ≤ 2 ^ k → v ≡ values_at r (coset_point r a (root k)) (2 ^ k) f
      → IsInterpolant r (coset_point r r.one (root k)) v g → SamePoly r g (shift_arg r a f)
  same_polynomial k a v f g fits len short is G =
      let n = 2 ^ k in
      let h = shift_arg r a f in
      same_values r L (field_no_zero_divisors r L inv W) n (coset_point r r.one (root k)) g h
      (coset_apart r L (field_no_zero_divisors r L inv W) n r.one (root k) (two_adic_order r L top root T k fits) W.one_differs)
      (degree_length_le r L n g (omega (arith, G.length_is)))
      (degree_length_le r L n h (omega (arith, length_shift_arg r L a f)))
      (λ i b.
      let within : i < length v = omega arith in
      G.value_is i within
      ∙ (ap (λ l. get_or l i r.zero) is
      ∙ (get_or-values_at r (coset_point r a (root k)) n f i r.zero b ∙ sym (at_subgroup r L a (pow r (root k) i) f))))

  shifted_values : (n : ℕ) (a s t h : A) (f g : List A) → (a ≡ r.zero → ⊥) → t ≡ r.mul s (inv a) → SamePoly r g (shift_arg r a f)
      → values_at r (coset_point r t h) n g ≡ values_at r (coset_point r s h) n f
  unfolding values_at
  shifted_values n a s t h f g nz shift same =
      tabulate_same n (λ i. eval_poly r g (coset_point r t h i)) (λ i. eval_poly r f (coset_point r s h i))
      (λ i b.
      let x = pow r h i in
      eval_same r L g (shift_arg r a f) (r.mul t x) same
      ∙ (eval_shift_arg r L a f (r.mul t x)
      ∙ (ap (λ z. eval_poly r f (r.mul a (r.mul z x))) shift ∙ ap (eval_poly r f) (divided a s x nz))))

  -- a transform with the shift e / d leads from d to e, which is as large or larger
  pub transfer : (d e : CosetData A) (c : ℕ) (x y s : A) (m v : Rows A) → d.log_size ≤ top → (d.shift ≡ r.zero → ⊥) → height m ≡ 2 ^ d.log_size → d.log_size + c ≡ e.log_size
      → s ≡ r.mul x y → x ≡ e.shift → y ≡ inv d.shift → IsExtensionOf r root c s m v → IsTransfer r root d e m v
  transfer d e c x y s m v fits nz size sum is p q E = record {
    width_is = E.width_is;
    height_is =
        let X = E.column_is 0 d.log_size (width_positive m (d.log_size, size)) size in
        sym (length-column r.zero v 0)
        ∙ (ap length X.values_are ∙ (length-values_at r (coset_point r s (root (d.log_size + c))) (2 ^ (d.log_size + c)) X.interpolant ∙ ap (λ l. 2 ^ l) sum));
    column_is = λ j f b short values.
        let k = d.log_size in
        let X = E.column_is j k b size in
        let same : SamePoly r X.interpolant (shift_arg r d.shift f) =
        same_polynomial k d.shift (column r.zero m j) f X.interpolant fits (length-column r.zero m j ∙ size) short values X.interpolates in
        X.values_are
        ∙ (shifted_values (2 ^ (k + c)) d.shift e.shift s (root (k + c)) f X.interpolant nz (ratio_is d e x y s is p q) same
        ∙ ap (λ l. values_at r (coset_point r e.shift (root l)) (2 ^ l) f) sum);
  }

  -- each 2^c-th point of a domain is a point of the smaller one with its shift
  sampled : (e w : CosetData A) (c i : ℕ) → w.log_size ≤ top → e.log_size + c ≡ w.log_size → e.shift ≡ w.shift → point r root w (0 + 2 ^ c * i) ≡ point r root e i
  sampled e w c i fits sum shift =
      let part : IsPart r root w (2 ^ c) 0 e = record {
        shift_is = shift ∙ sym (first_coset_point r L w.shift (root w.log_size));
        size_is = sym (pow-add 2 e.log_size c) ∙ ap (λ k. 2 ^ k) sum;
      } in
      sym (points_of_part r L top root T w e (2 ^ c) 0 i fits part)

  sampled_column : (e w : CosetData A) (c : ℕ) (v u : Rows A) (j : ℕ) (f : List A) → w.log_size ≤ top → e.log_size + c ≡ w.log_size → e.shift ≡ w.shift
      → height v ≡ 2 ^ w.log_size → height u ≡ 2 ^ e.log_size → IsSplit v (2 ^ c) 0 u → j < v.width
      → column r.zero v j ≡ values_at r (point r root w) (2 ^ w.log_size) f → column r.zero u j ≡ values_at r (point r root e) (2 ^ e.log_size) f
  sampled_column e w c v u j f fits sum shift tall low S b is =
      let q : ℕ → A = point r root e in
      ext_get_or r.zero (column r.zero u j) (values_at r q (2 ^ e.log_size) f)
      (length-column r.zero u j ∙ (low ∙ sym (length-values_at r q (2 ^ e.log_size) f)))
      (λ i h.
      let inside : i < height u = omega (arith, length-column r.zero u j) in
      let below : i < 2 ^ e.log_size = omega arith in
      let across : j < u.width = omega (arith, S.width_is) in
      let at : 0 + 2 ^ c * i < 2 ^ w.log_size = place c e.log_size w.log_size i sum below in
      let under : 0 + 2 ^ c * i < height v = omega arith in
      get_or-column r.zero u j i inside
      ∙ (sym (get_or-row_at u i j r.zero across)
      ∙ (ap (λ l. get_or l j r.zero) (S.row_is i inside)
      ∙ (get_or-row_at v (0 + 2 ^ c * i) j r.zero b
      ∙ (sym (get_or-column r.zero v j (0 + 2 ^ c * i) under)
      ∙ (ap (λ l. get_or l (0 + 2 ^ c * i) r.zero) is
      ∙ (get_or-values_at r (point r root w) (2 ^ w.log_size) f (0 + 2 ^ c * i) r.zero at
      ∙ (ap (eval_poly r f) (sampled e w c i fits sum shift) ∙ sym (get_or-values_at r q (2 ^ e.log_size) f i r.zero below)))))))))
    where
      scaled : (n m i : ℕ) → 0 < n → i < m → n * i < n * m
      scaled n m i pos h = mul-lt-mul_of_pos_left h pos

      place : (c l k i : ℕ) → l + c ≡ k → i < 2 ^ l → 0 + 2 ^ c * i < 2 ^ k
      place c l k i e h =
          let size : 2 ^ k ≡ 2 ^ l * 2 ^ c = ap (λ n. 2 ^ n) (sym e) ∙ pow-add 2 l c in
          omega (arith, scaled (2 ^ c) (2 ^ l) i (pow_pos c) h, size)

  -- the rows for the points of a smaller domain
  pub transfer_smaller : (d e w : CosetData A) (c : ℕ) (m v u : Rows A) → w.log_size ≤ top → e.log_size + c ≡ w.log_size → e.shift ≡ w.shift
      → IsTransfer r root d w m v → IsSplit v (2 ^ c) 0 u → IsTransfer r root d e m u
  transfer_smaller d e w c m v u fits sum shift I S =
      let low : height u ≡ 2 ^ e.log_size = smaller_height (height u) c e.log_size w.log_size sum (S.height_is ∙ I.height_is) in
      record {
        width_is = S.width_is ∙ I.width_is;
        height_is = low;
        column_is = λ j f b short is. sampled_column e w c v u j f fits sum shift I.height_is low S (omega (arith, I.width_is)) (I.column_is j f b short is);
      }
    where
      smaller_height : (h c l k : ℕ) → l + c ≡ k → h * 2 ^ c ≡ 2 ^ k → h ≡ 2 ^ l
      smaller_height h c l k e q = product_cancel h (2 ^ l) (2 ^ c) (pow_pos c) (q ∙ (ap (λ n. 2 ^ n) (sym e) ∙ pow-add 2 l c))

  -- the rows for the points of a smaller domain, of the matrix itself
  pub transfer_part : (d e : CosetData A) (c : ℕ) (m u : Rows A) → d.log_size ≤ top → e.log_size + c ≡ d.log_size → e.shift ≡ d.shift → height m ≡ 2 ^ d.log_size → IsSplit m (2 ^ c) 0 u
      → IsTransfer r root d e m u
  transfer_part d e c m u fits sum shift size S =
      transfer_smaller d e d c m m u fits sum shift (record { width_is = refl; height_is = size; column_is = λ j f b short is. is }) S
