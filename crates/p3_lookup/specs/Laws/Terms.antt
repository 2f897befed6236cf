-- Sums of fractions over a common denominator.
use Rattle.std.proofs.Common.{◌≡◌, List, [], ◌∷◌, ◌++◌, length, get_or, refl, sym, ◌∙◌, ap}
use Rattle.std.proofs.lemmas.List.Elements.{All-head, All-tail}
use Rattle.p3_field.specs.Ring.{Ring, RingLaws}
use Rattle.p3_field.specs.Field.{FieldLaws}
use Rattle.p3_field.specs.Poly.{total}
use Rattle.p3_field.specs.Laws.Algebra.{zero_add}
use Rattle.p3_field.specs.Laws.Solver.{expressions, var, solve}
use Rattle.p3_lookup.specs.Term.{Term, common, numerator, sum_of, fraction, HasInverses}

-- the two sides of one step, with the first term's count, denominator and inverse, and of the others the product of
-- the denominators and the sum of the fractions
abbrev step_left : {A : Type 0} → Ring A → A → A → A → A → A → A
step_left r m d i p s = r.mul (r.add (r.mul m i) s) (r.mul d p)

abbrev step_right : {A : Type 0} → Ring A → A → A → A → A → A → A
step_right r m d i p s = r.add (r.mul (r.mul m (r.mul d i)) p) (r.mul d (r.mul s p))

module _ {A : Type 0} (r : Ring A) (L : RingLaws r) where
  step : (m d i p s : A) → step_left r m d i p s ≡ step_right r m d i p s
  step m d i p s =
      solve r L (m ∷ d ∷ i ∷ p ∷ s ∷ [])
      (step_left expressions (var 0) (var 1) (var 2) (var 3) (var 4))
      (step_right expressions (var 0) (var 1) (var 2) (var 3) (var 4)) refl

  -- the sum of fractions, times the common denominator, is the numerator
  pub fraction_times : (inv : A → A) → FieldLaws r inv → (ts : List (Term A)) → HasInverses r ts
      → r.mul (fraction r inv ts) (common r ts) ≡ numerator r ts
  fraction_times inv W [] h = L.mul_one r.zero
  fraction_times inv W (t ∷ ts) h =
      let P : Term A → Type 0 = λ u. u.denominator ≡ r.zero → ⊥ in
      let one = W.mul_inv t.denominator (All-head P t ts h) in
      let rest = fraction_times inv W ts (All-tail P t ts h) in
      cc (step t.count t.denominator (inv t.denominator) (common r ts) (fraction r inv ts), one, rest, L.mul_one t.count)

  pub sum_append : (xs ys : List A) → sum_of r (xs ++ ys) ≡ r.add (sum_of r xs) (sum_of r ys)
  sum_append [] ys = sym (zero_add r L (sum_of r ys))
  sum_append (x ∷ xs) ys = ap (r.add x) (sum_append xs ys) ∙ sym (L.add_assoc x (sum_of r xs) (sum_of r ys))

  pub sum_is_total : (xs : List A) → sum_of r xs ≡ total r (length xs) (λ k. get_or xs k r.zero)
  sum_is_total [] = refl
  sum_is_total (x ∷ xs) = ap (r.add x) (sum_is_total xs)
