-- The fields of a call as plain data, from what its bounds have.
use Rattle.std.specs.Prelude.{ℕ, List}
use Rattle.p3_field.specs.Field.{TwoAdic, Extension}
use Rattle.p3_field.specs.Ring.{Ring}

-- a base field
abbrev pub two_adic_of : {F : Type 0} → Ring F → (inv : F → F) → (root : ℕ → F) → (generator : F) → TwoAdic F
two_adic_of ring inv root generator = record { ring = ring; inv = inv; root = root; generator = generator }

-- an extension of it
abbrev pub extension_of : {F E : Type 0} → Ring E → (embed : F → E) → (dimension : ℕ) → (basis : ℕ → E) → (coefficients : E → List F) → (from_coefficients : List F → E)
    → Extension F E
extension_of ring embed dimension basis coefficients from_coefficients =
    record { ring = ring; embed = embed; dimension = dimension; basis = basis; coefficients = coefficients; from_coefficients = from_coefficients }
