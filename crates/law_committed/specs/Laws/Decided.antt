-- What is decided of lists where equality is: whether all items are zero.
use Rattle.std.proofs.Common.{◌≡◌, ℕ, zero, suc, ◌<◌, ◌⊎◌, inl, inr, List, [], ◌∷◌, length, get_or, refl, arith}
use Rattle.std.specs.List.{All}
use Rattle.p3_field.specs.Ring.{Ring}
use Rattle.p3_field.specs.Poly.{IsZeroPoly, coeff}
use Rattle.law_committed.specs.Fields.{AreDecided}

-- whether all coefficients are zero
pub zero_decided : {E : Type 0} (s : Ring E) → AreDecided E → (g : List E) → IsZeroPoly s g ⊎ (IsZeroPoly s g → ⊥)
zero_decided s dec [] = inl (λ i. refl)
zero_decided s dec (c ∷ cs) = elim (dec c s.zero) [
  | inr d ↦ inr (λ z. d (z zero))
  | inl a ↦ elim (zero_decided s dec cs) [
    | inr d ↦ inr (λ z. d (λ i. z (suc i)))
    | inl b ↦ inl (λ i. both s c cs a b i)
  ]
]
  where
    both : {E : Type 0} (s : Ring E) (c : E) (cs : List E) → c ≡ s.zero → IsZeroPoly s cs → (i : ℕ) → coeff s (c ∷ cs) i ≡ s.zero
    both s c cs a b zero = a
    both s c cs a b (suc i) = b i

-- whether all items are z
pub items_decided : {E : Type 0} (z : E) → AreDecided E → (vs : List E) → All (λ v. v ≡ z) vs ⊎ (All (λ v. v ≡ z) vs → ⊥)
items_decided z dec [] = inl (λ k d h. absurd (omega (arith, h)))
items_decided z dec (c ∷ cs) = elim (dec c z) [
  | inr d ↦ inr (λ h. d (h zero z (omega arith)))
  | inl a ↦ elim (items_decided z dec cs) [
    | inr d ↦ inr (λ h. d (λ k v l. h (suc k) v (omega (arith, l))))
    | inl b ↦ inl (λ k v l. both z c cs a b k v l)
  ]
]
  where
    both : {E : Type 0} (z c : E) (cs : List E) → c ≡ z → All (λ v. v ≡ z) cs → (k : ℕ) (v : E) → k < length (c ∷ cs) → get_or (c ∷ cs) k v ≡ z
    both z c cs a b zero v l = a
    both z c cs a b (suc k) v l = b k v (omega (arith, l))
