-- Polynomials as lists of coefficients, lowest first.
use Rattle.std.proofs.Common.{◌≡◌, ℕ, zero, suc, ◌≤◌, ◌<◌, List, [], ◌∷◌, get_or, map}
use Rattle.p3_field.specs.Ring.{Ring}
use Rattle.p3_field.specs.Field.{Extension}

-- the value at `x` of the polynomial with these coefficients, lowest first
abbrev pub eval_poly : {A : Type 0} → Ring A → List A → A → A
eval_poly r [] x = r.zero
eval_poly r (c ∷ cs) x = r.add c (r.mul x (eval_poly r cs x))

-- the value of a polynomial over F at a point above F
abbrev pub eval_poly_in : {F E : Type 0} → Extension F E → List F → E → E
eval_poly_in e f x = eval_poly e.ring (map e.embed f) x

-- the coefficient of X^i, zero past the end
abbrev pub coeff : {A : Type 0} → Ring A → List A → ℕ → A
coeff r f i = get_or f i r.zero

-- all coefficients from place `n` on are zero
abbrev pub DegreeBelow : {A : Type 0} → Ring A → ℕ → List A → Type 0
DegreeBelow r n f = (i : ℕ) → n ≤ i → coeff r f i ≡ r.zero

-- all coefficients are zero
abbrev pub IsZeroPoly : {A : Type 0} → Ring A → List A → Type 0
IsZeroPoly r f = (i : ℕ) → coeff r f i ≡ r.zero

-- the lists differ by zeros at the end
abbrev pub SamePoly : {A : Type 0} → Ring A → List A → List A → Type 0
SamePoly r f g = (i : ℕ) → coeff r f i ≡ coeff r g i

-- the sum, coefficient by coefficient
abbrev pub add_poly : {A : Type 0} → Ring A → List A → List A → List A
add_poly r [] g = g
add_poly r (c ∷ cs) [] = c ∷ cs
add_poly r (c ∷ cs) (d ∷ ds) = r.add c d ∷ add_poly r cs ds

-- each coefficient times `a`
abbrev pub scale_poly : {A : Type 0} → Ring A → A → List A → List A
scale_poly r a [] = []
scale_poly r a (c ∷ cs) = r.mul a c ∷ scale_poly r a cs

-- each coefficient negated
abbrev pub neg_poly : {A : Type 0} → Ring A → List A → List A
neg_poly r [] = []
neg_poly r (c ∷ cs) = r.neg c ∷ neg_poly r cs

-- the difference
abbrev pub sub_poly : {A : Type 0} → Ring A → List A → List A → List A
sub_poly r f g = add_poly r f (neg_poly r g)

-- the product: (c + X f) g is c g + X (f g)
abbrev pub mul_poly : {A : Type 0} → Ring A → List A → List A → List A
mul_poly r [] g = []
mul_poly r (c ∷ cs) g = add_poly r (scale_poly r c g) (r.zero ∷ mul_poly r cs g)

-- f(hX): the coefficient of X^i times h^i
abbrev pub shift_arg : {A : Type 0} → Ring A → A → List A → List A
shift_arg r h [] = []
shift_arg r h (c ∷ cs) = c ∷ scale_poly r h (shift_arg r h cs)

-- X^n times f
abbrev pub raise : {A : Type 0} → Ring A → ℕ → List A → List A
raise r zero f = f
raise r (suc n) f = r.zero ∷ raise r n f

-- the coefficients at even places
abbrev pub even_part : {A : Type 0} → List A → List A
even_part [] = []
even_part (c ∷ []) = c ∷ []
even_part (c ∷ d ∷ cs) = c ∷ even_part cs

-- the coefficients at odd places
abbrev pub odd_part : {A : Type 0} → List A → List A
odd_part [] = []
odd_part (c ∷ []) = []
odd_part (c ∷ d ∷ cs) = d ∷ odd_part cs

-- the values at `a` of the list and of its tails, but for the empty one
abbrev pub tail_values : {A : Type 0} → Ring A → List A → A → List A
tail_values r [] a = []
tail_values r (d ∷ ds) a = r.add d (r.mul a (eval_poly r ds a)) ∷ tail_values r ds a

-- the quotient of f by X - a
abbrev pub quotient : {A : Type 0} → Ring A → List A → A → List A
quotient r [] a = []
quotient r (c ∷ cs) a = tail_values r cs a

-- the coefficients t 0, .., t (n - 1)
abbrev pub tabulate : {A : Type 0} → ℕ → (ℕ → A) → List A
tabulate zero t = []
tabulate (suc n) t = t zero ∷ tabulate n (λ i. t (suc i))

-- t 0 + .. + t (n - 1)
abbrev pub total : {A : Type 0} → Ring A → ℕ → (ℕ → A) → A
total r zero t = r.zero
total r (suc n) t = r.add (t zero) (total r n (λ i. t (suc i)))

-- the polynomial t 0 + .. + t (k - 1)
abbrev pub sum_polys : {A : Type 0} → Ring A → ℕ → (ℕ → List A) → List A
sum_polys r zero t = []
sum_polys r (suc k) t = add_poly r (t zero) (sum_polys r k (λ j. t (suc j)))

-- t 0 * .. * t (n - 1)
abbrev pub product : {A : Type 0} → Ring A → ℕ → (ℕ → A) → A
product r zero t = r.one
product r (suc n) t = r.mul (product r n t) (t n)

-- the points p 0, .., p (n - 1) differ from each other
abbrev pub Apart : {A : Type 0} → ℕ → (ℕ → A) → Type 0
Apart n p = (i j : ℕ) → i < j → j < n → p i ≡ p j → ⊥
