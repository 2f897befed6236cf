-- The vanishing polynomial's values on a larger domain repeat, and so far as they do is the next row.
use Rattle.std.proofs.Common.{◌≡◌, ℕ, ◌+◌, ◌%◌, ◌^◌, ◌≤◌, sym, ◌∙◌, ap, arith}
use Rattle.std.proofs.lemmas.List.{map-id}
use Rattle.std.proofs.lemmas.Nat.{pow_pos}
use Rattle.p3_field.specs.Ring.{Ring, RingLaws, pow, sub}
use Rattle.p3_field.specs.Field.{FieldLaws, TwoAdicLaws}
use Rattle.p3_field.specs.Poly.{eval_poly}
use Rattle.p3_field.specs.Domain.{CosetData, point, vanishing_polynomial}
use Rattle.p3_field.specs.Laws.Algebra.{pow_add}
use Rattle.p3_field.specs.Laws.Coset.{two_adic_order, pow_mul}
use Rattle.p3_field.specs.Laws.Selectors.{vanishing_value}
use Rattle.p3_field.specs.Laws.Own.{own_hom}
use Rattle.p3_field.specs.Laws.Subcosets.{row_power}
use Rattle.commit_core.specs.Laws.Cosets.{reduced, root_power}

module _ {A : Type 0} (r : Ring A) (L : RingLaws r) (top : ℕ) (root : ℕ → A) (T : TwoAdicLaws r top root) (d : CosetData A) (k c : ℕ) (size : d.log_size ≡ k + c) (fits : d.log_size ≤ top) where
  -- The point 2^c further, round the domain, is the point times the generator of the subgroup that is 2^c times smaller.
  pub point_far : (i : ℕ) → r.mul (root k) (point r root d i) ≡ point r root d ((i + 2 ^ c) % 2 ^ d.log_size)
  point_far i =
      let h = root d.log_size in
      let s = d.shift in
      let n = 2 ^ d.log_size in
      let P = pow r h i in
      let step : pow r h (2 ^ c) ≡ root k = ap (λ z. pow r (root z) (2 ^ c)) size ∙ root_power r L top root T k c (omega (arith, size, fits)) in
      let round : pow r h (i + 2 ^ c) ≡ pow r h ((i + 2 ^ c) % n) = reduced r L top root T n h (i + 2 ^ c) (pow_pos d.log_size) (two_adic_order r L top root T d.log_size fits) in
      L.mul_comm (root k) (r.mul s P)
      ∙ (L.mul_assoc s P (root k)
      ∙ ap (r.mul s) (ap (r.mul P) (sym step) ∙ (sym (pow_add r L h i (2 ^ c)) ∙ round)))

  -- the power 2^k of a point is that of the point at the same place among the first 2^c
  pub power_repeats : (i : ℕ) → pow r (point r root d i) (2 ^ k) ≡ pow r (point r root d (i % 2 ^ c)) (2 ^ k)
  power_repeats i =
      let h = root d.log_size in
      let n = 2 ^ k in
      let turn : k + c ≡ c + k = omega arith in
      let smaller : pow r h n ≡ root c = ap (λ z. pow r (root z) n) (size ∙ turn) ∙ root_power r L top root T c k (omega (arith, size, fits)) in
      let once : pow r (pow r h n) i ≡ pow r (pow r h n) (i % 2 ^ c) =
      ap (λ z. pow r z i) smaller ∙ (reduced r L top root T (2 ^ c) (root c) i (pow_pos c) (two_adic_order r L top root T c (omega (arith, size, fits))) ∙ ap (λ z. pow r z (i % 2 ^ c)) (sym smaller)) in
      row_power r L d.shift h 0 n i ∙ (ap (r.mul (pow r d.shift n)) once ∙ sym (row_power r L d.shift h 0 n (i % 2 ^ c)))

  -- So the value at a point of the polynomial that vanishes on a coset of that smaller size is the value at that place.
  pub vanishing_repeats : (inv : A → A) (W : FieldLaws r inv) (e : CosetData A) → (e.shift ≡ r.zero → ⊥) → e.log_size ≡ k → (i : ℕ)
      → eval_poly r (vanishing_polynomial r inv e) (point r root d (i % 2 ^ c)) ≡ eval_poly r (vanishing_polynomial r inv e) (point r root d i)
  vanishing_repeats inv W e nz same i =
      let n = 2 ^ e.log_size in
      let a = inv e.shift in
      let V = vanishing_polynomial r inv e in
      let at : (x : A) → eval_poly r V x ≡ sub r (r.mul (pow r a n) (pow r x n)) r.one = λ x.
      ap (λ l. eval_poly r l x) (sym (map-id V)) ∙ (vanishing_value r L r L (λ y. y) (own_hom r) inv W e x nz ∙ ap (λ y. sub r y r.one) (pow_mul r L a x n)) in
      let repeats : pow r (point r root d (i % 2 ^ c)) n ≡ pow r (point r root d i) n =
      ap (λ j. pow r (point r root d (i % 2 ^ c)) (2 ^ j)) same ∙ (sym (power_repeats i) ∙ ap (λ j. pow r (point r root d i) (2 ^ j)) (sym same)) in
      at (point r root d (i % 2 ^ c)) ∙ (ap (λ y. sub r (r.mul (pow r a n) y) r.one) repeats ∙ sym (at (point r root d i)))
