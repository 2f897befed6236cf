-- Newton's form of a polynomial of degree below n with given values at n points.
use Rattle.std.specs.Prelude.{ℕ, zero, suc, List, [], ◌∷◌}
use Rattle.p3_field.specs.Ring.{Ring, sub}
use Rattle.p3_field.specs.Poly.{eval_poly, add_poly, scale_poly}

-- (X - a) f
abbrev pub times_linear : {A : Type 0} → Ring A → A → List A → List A
times_linear r a f = add_poly r (scale_poly r (r.neg a) f) (r.zero ∷ f)

-- the product of X - p i over i < n
abbrev pub root_product : {A : Type 0} → Ring A → ℕ → (ℕ → A) → List A
root_product r zero p = r.one ∷ []
root_product r (suc n) p = times_linear r (p n) (root_product r n p)

-- one more point `x` with the value `y`, where `f` serves the points that are roots of `g`
abbrev pub newton_step : {A : Type 0} → Ring A → (A → A) → List A → List A → A → A → List A
newton_step r inv f g x y = add_poly r f (scale_poly r (r.mul (sub r y (eval_poly r f x)) (inv (eval_poly r g x))) g)

-- the polynomial with the values v i at p i, i < n
abbrev pub newton : {A : Type 0} → Ring A → (A → A) → ℕ → (ℕ → A) → (ℕ → A) → List A
newton r inv zero p v = []
newton r inv (suc n) p v = newton_step r inv (newton r inv n p v) (root_product r n p) (p n) (v n)
