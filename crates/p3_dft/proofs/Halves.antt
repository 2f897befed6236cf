-- The parts of a polynomial at even and odd places, and the squares of the points.
use Rattle.std.proofs.Common.{◌≡◌, ℕ, zero, suc, ◌+◌, ◌^◌, ◌≤◌, List, [], ◌∷◌, length, sym, ◌∙◌, ap, arith}
use Rattle.p3_field.specs.Ring.{Ring, RingLaws, pow}
use Rattle.p3_field.specs.Poly.{even_part, odd_part}
use Rattle.p3_field.specs.Laws.Algebra.{pow_square}
use Rattle.p3_field.specs.Laws.Coset.{double_power}
use Rattle.p3_dft.specs.Transform.{TurnsIn}

-- the parts have at most half of the places
pub length-even_part : {A : Type 0} (f : List A) (m : ℕ) → length f ≤ m + m → length (even_part f) ≤ m
length-even_part [] m h = omega arith
length-even_part (a ∷ []) m h = omega arith
length-even_part (a ∷ b ∷ f) zero h = absurd (omega arith)
length-even_part (a ∷ b ∷ f) (suc m) h = let r : length (even_part f) ≤ m = length-even_part f m (omega arith) in omega arith

pub length-odd_part : {A : Type 0} (f : List A) (m : ℕ) → length f ≤ m + m → length (odd_part f) ≤ m
length-odd_part [] m h = omega arith
length-odd_part (a ∷ []) m h = omega arith
length-odd_part (a ∷ b ∷ f) zero h = absurd (omega arith)
length-odd_part (a ∷ b ∷ f) (suc m) h = let r : length (odd_part f) ≤ m = length-odd_part f m (omega arith) in omega arith

module _ {A : Type 0} (r : Ring A) (L : RingLaws r) where
  -- the square turns in half as many steps
  pub turns_square : (k : ℕ) (h : A) → TurnsIn r (suc k) h → TurnsIn r k (r.mul h h)
  turns_square k h t = λ j e. let d : suc (suc j) ≡ suc k = ap suc e in
      pow_square r L h (2 ^ j) ∙ (ap (pow r h) (sym (double_power j)) ∙ t (suc j) d)
