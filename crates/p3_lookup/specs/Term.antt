-- Sums of fractions: a lookup's tuples, each as often as its count says over its denominator. After Plonky3's
-- p3-lookup (LogUpGadget); the weights in a denominator are this project's own.
use Rattle.std.specs.Prelude.{◌≡◌, List, [], ◌∷◌, map, All}
use Rattle.p3_field.specs.Ring.{Ring, sub}
use Rattle.p3_field.specs.Poly.{eval_poly}
use Rattle.p3_lookup.specs.Lookup.{Sent}

-- a count over a denominator
pub record Term (A : Type 0) : Type 0 where
  pub count : A
  pub denominator : A

-- what a tuple is sent under: the bus's base minus the sum of the tuple's e_k times beta^k
abbrev pub denominator : {A : Type 0} → Ring A → A → A → List A → A
denominator r base beta tuple = sub r base (eval_poly r tuple beta)

abbrev pub term : {A : Type 0} → Ring A → A → A → Sent A → Term A
term r base beta s = record { count = s.count; denominator = denominator r base beta s.tuple }

-- the product of the denominators
abbrev pub common : {A : Type 0} → Ring A → List (Term A) → A
common r [] = r.one
common r (t ∷ ts) = r.mul t.denominator (common r ts)

-- the sum over all terms of the count times the product of the other denominators
abbrev pub numerator : {A : Type 0} → Ring A → List (Term A) → A
numerator r [] = r.zero
numerator r (t ∷ ts) = r.add (r.mul t.count (common r ts)) (r.mul t.denominator (numerator r ts))

-- the sum of the values of a list
abbrev pub sum_of : {A : Type 0} → Ring A → List A → A
sum_of r [] = r.zero
sum_of r (x ∷ xs) = r.add x (sum_of r xs)

-- the count over the denominator
abbrev pub term_value : {A : Type 0} → Ring A → (A → A) → Term A → A
term_value r inv t = r.mul t.count (inv t.denominator)

-- the sum of the counts over their denominators
abbrev pub fraction : {A : Type 0} → Ring A → (A → A) → List (Term A) → A
fraction r inv ts = sum_of r (map (term_value r inv) ts)

-- no denominator is zero
abbrev pub HasInverses : {A : Type 0} → Ring A → List (Term A) → Type 0
HasInverses r ts = All (λ t. t.denominator ≡ r.zero → ⊥) ts
