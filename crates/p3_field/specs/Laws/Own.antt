-- A field as a vector space over itself.
use Rattle.std.proofs.Common.{◌≡◌, ◌<◌, ◌≤◌, List, [], ◌∷◌, length, get_or, refl, ap, sym, ◌∙◌, lit<, arith}
use Rattle.std.specs.List.{flat_map}
use Rattle.p3_field.specs.Ring.{Ring, RingLaws}
use Rattle.p3_field.specs.Field.{VectorLaws, RingHom, combine, own_from_coefficients}

pub own_laws : {A : Type 0} (z : A) → VectorLaws {A = A} {B = A} 1 (λ x. x ∷ []) (own_from_coefficients z)
own_laws z = record {
  positive = lit< tt;
  coefficients_length = λ x. refl;
  from_coefficients_of_coefficients = λ x. refl;
  coefficients_of_from_coefficients = coefficients_of_from_coefficients z;
}
  where
    coefficients_of_from_coefficients : {A : Type 0} (z : A) (c : List A) → length c ≡ 1 → own_from_coefficients z c ∷ [] ≡ c
    coefficients_of_from_coefficients z [] e = cc
    coefficients_of_from_coefficients z (x ∷ []) e = refl
    coefficients_of_from_coefficients z (x ∷ y ∷ ys) e = cc

pub own_hom : {A : Type 0} (r : Ring A) → RingHom r r (λ x. x)
own_hom r = record { keeps_zero = refl; keeps_one = refl; keeps_add = λ x y. refl; keeps_mul = λ x y. refl }

pub flat_single : {A : Type 0} (xs : List A) → flat_map (λ (x : A). x ∷ []) xs ≡ xs
flat_single [] = refl
flat_single (x ∷ xs) = ap (λ l. x ∷ l) (flat_single xs)

pub own_spans : {A : Type 0} (r : Ring A) (L : RingLaws r) (x : A) → combine r (λ _. r.one) 0 (x ∷ []) ≡ x
own_spans r L x = L.add_zero (r.mul x r.one) ∙ L.mul_one x

-- a list of one coefficient has that coefficient as its value
pub own_combined : {A : Type 0} (r : Ring A) (L : RingLaws r) (c : List A) (x : A) → 1 ≤ length c → length c < 2 → x ≡ get_or c 0 x
    → (length c ≡ 1) × (x ≡ combine r (λ _. r.one) 0 c)
own_combined r L [] x h k e = absurd (omega (arith, h))
own_combined r L (y ∷ []) x h k e = (refl, e ∙ sym (own_spans r L y))
own_combined r L (y ∷ z ∷ c) x h k e = absurd (omega (arith, k))
