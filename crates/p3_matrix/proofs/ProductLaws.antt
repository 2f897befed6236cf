-- Products of the first values, and their inverses.
use Rattle.std.proofs.Common.{◌≡◌, ℕ, zero, suc, ◌+◌, ◌<◌, List, [], ◌∷◌, get_or, map, refl, ◌∙◌, ap, arith}
use Rattle.p3_field.specs.Ring.{Ring, RingLaws}
use Rattle.p3_field.specs.Field.{FieldLaws}
use Rattle.p3_field.specs.Laws.Algebra.{one_mul}
use Rattle.p3_field.specs.Laws.Roots.{NoZeroDivisors}
use Rattle.p3_matrix.specs.Products.{product_below}

pub no_product : {A : Type 0} (r : Ring A) (v : List A) → product_below r v 0 ≡ r.one
no_product r v = λ _. r.one

pub next_product : {A : Type 0} (r : Ring A) (v : List A) (n : ℕ) → product_below r v (n + 1) ≡ r.mul (product_below r v n) (get_or v n r.zero)
next_product r v n = let e : n + 1 ≡ suc n = omega arith in ap (product_below r v) e

module _ {A : Type 0} (r : Ring A) (L : RingLaws r) where
  pub product_not_zero : NoZeroDivisors r → (r.one ≡ r.zero → ⊥) → (v : List A) (n : ℕ) → ((i : ℕ) → i < n → get_or v i r.zero ≡ r.zero → ⊥) → product_below r v n ≡ r.zero → ⊥
  product_not_zero N one v zero nz e = one e
  product_not_zero N one v (suc n) nz e =
      product_not_zero N one v n (λ i h. nz i (omega arith)) (N (get_or v n r.zero) (product_below r v n) (nz n (omega arith)) (L.mul_comm (get_or v n r.zero) (product_below r v n) ∙ e))

  -- c over P x, times P, is c over x
  pub quotient_of_last : (inv : A → A) → FieldLaws r inv → (a P x c : A) → r.mul a (r.mul P x) ≡ c → (x ≡ r.zero → ⊥) → r.mul a P ≡ r.mul c (inv x)
  quotient_of_last inv W a P x c e nz =
      let unit : r.mul x (inv x) ≡ r.one = W.mul_inv x nz in
      cc (e, unit, L.mul_assoc a P x, L.mul_assoc (r.mul a P) x (inv x), L.mul_one (r.mul a P))

  -- and times x it is c over P
  pub quotient_of_front : (a P x c : A) → r.mul a (r.mul P x) ≡ c → r.mul (r.mul a x) P ≡ c
  quotient_of_front a P x c e = cc (e, L.mul_assoc a x P, L.mul_comm x P)

  -- c over P, times P
  pub quotient_times_whole : (inv : A → A) → FieldLaws r inv → (c P : A) → (P ≡ r.zero → ⊥) → r.mul (r.mul c (inv P)) P ≡ c
  quotient_times_whole inv W c P nz =
      let unit : r.mul P (inv P) ≡ r.one = W.mul_inv P nz in
      cc (unit, L.mul_assoc c (inv P) P, L.mul_comm (inv P) P, L.mul_one c)

  -- one times the inverses
  pub map_one_times : (inv : A → A) (one : A) (v : List A) → one ≡ r.one → map (λ x. r.mul one (inv x)) v ≡ map inv v
  map_one_times inv one [] e = refl
  map_one_times inv one (x ∷ xs) e = cc (e, one_mul r L (inv x), map_one_times inv one xs e)
