-- Products of finitely many factors.
use Rattle.std.proofs.Common.{◌≡◌, ℕ, zero, suc, ◌+◌, ◌<◌, inl, inr, refl, sym, ◌∙◌, ap, arith}
use Rattle.std.proofs.lemmas.Bool.{cases_eq}
use Rattle.p3_field.specs.Ring.{Ring, RingLaws}
use Rattle.p3_field.specs.Poly.{product}
use Rattle.p3_field.specs.Laws.Algebra.{one_mul, mul_zero, zero_mul}

module _ {A : Type 0} (r : Ring A) (L : RingLaws r) where
  -- one factor more
  pub product_more : (n : ℕ) (t : ℕ → A) → product r (n + 1) t ≡ r.mul (product r n t) (t n)
  product_more n t = let e : n + 1 ≡ suc n = omega arith in ap (λ m. product r m t) e

  -- the first factor apart
  pub product_front : (n : ℕ) (t : ℕ → A) → product r (suc n) t ≡ r.mul (t zero) (product r n (λ i. t (suc i)))
  product_front zero t = L.mul_comm r.one (t zero)
  product_front (suc n) t =
      ap (λ v. r.mul v (t (suc n))) (product_front n t) ∙ L.mul_assoc (t zero) (product r n (λ i. t (suc i))) (t (suc n))

  pub product_same : (n : ℕ) (t u : ℕ → A) → ((i : ℕ) → i < n → t i ≡ u i) → product r n t ≡ product r n u
  product_same zero t u h = refl
  product_same (suc n) t u h = let p = product_same n t u (λ i k. h i (omega arith)) in let q = h n (omega arith) in λ i. r.mul (p i) (q i)

  -- with a factor zero
  pub product_zero : (n j : ℕ) (t : ℕ → A) → j < n → t j ≡ r.zero → product r n t ≡ r.zero
  product_zero zero j t h z = absurd (omega (arith, h))
  product_zero (suc n) j t h z = elim (cases_eq j n) [
    | inl w ↦ ap (r.mul (product r n t)) (ap t (sym w) ∙ z) ∙ mul_zero r L (product r n t)
    | inr w ↦ ap (λ v. r.mul v (t n)) (product_zero n j t (omega (arith, h, w)) z) ∙ zero_mul r L (t n)
  ]

  -- all factors one
  pub product_one : (n : ℕ) (t : ℕ → A) → ((j : ℕ) → j < n → t j ≡ r.one) → product r n t ≡ r.one
  product_one zero t h = refl
  product_one (suc n) t h =
      let rest = product_one n t (λ j l. h j (omega (arith, l))) in
      (λ i. r.mul (rest i) (h n (omega arith) i)) ∙ L.mul_one r.one
