-- Multilinear polynomials, each given by its values on the points of zeros and ones.
use Rattle.std.specs.Prelude.{ℕ, zero, suc, ◌^◌, List, length}
use Rattle.std.specs.Prelude.{slice_index_or as get_or}
use Rattle.std.specs.Int.{bit_at}
use Rattle.p3_field.specs.Ring.{Ring, sub}
use Rattle.p3_field.specs.Poly.{total, product}

-- the factor of a variable at x: 1 - x where the bit is zero, and x where it is one
abbrev pub factor : {A : Type 0} → Ring A → ℕ → A → A
factor r zero x = sub r r.one x
factor r (suc b) x = x

-- The weight of place i at the point xs: bit j of i is variable j. At a point of zeros and ones it is one for the place
-- that has these bits, and zero for any other.
unfoldable pub weight : {A : Type 0} → Ring A → List A → ℕ → A
weight r xs i = product r (length xs) (λ j. factor r (bit_at i j) (get_or xs j r.zero))

-- the value at xs of the multilinear polynomial that has the value i of vs at the point of the bits of i
unfoldable pub multilinear_value : {A : Type 0} → Ring A → List A → List A → A
multilinear_value r vs xs = total r (2 ^ length xs) (λ i. r.mul (get_or vs i r.zero) (weight r xs i))
