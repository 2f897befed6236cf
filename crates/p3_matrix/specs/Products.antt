-- Products of the first values of a list.
use Rattle.std.specs.Prelude.{ℕ, List, get_or}
use Rattle.p3_field.specs.Ring.{Ring}
use Rattle.p3_field.specs.Poly.{product}

-- the product of the first n values
abbrev pub product_below : {A : Type 0} → Ring A → List A → ℕ → A
product_below r v n = product r n (λ i. get_or v i r.zero)
