-- What is behind references that may be there, and what is generated for equal traces.
use Rattle.std.proofs.Common.{◌≡◌, ℕ, List, Option, None, Some, subst}
use Rattle.std.specs.Prelude.{IfSome}
use Rattle.std.specs.Option.{option_map}
use denote.Bor.{Bor}
use Rattle.p3_field.specs.Ring.{Ring}
use Rattle.p3_matrix.specs.Matrix.{Rows, height}
use Rattle.p3_lookup.specs.Generated.{IsFirstZeroOf, argument_over}
use Rattle.p3_lookup.specs.Lookup.{LookupData}

pub of_reference : {X : Type 0} (P : X → Type 0) (o : Option (Bor X)) → IfSome (option_map (λ m. m.now) o) P → IfSome o (λ m. P m.now)
of_reference P None h = h
of_reference P (Some m) h = h

-- what is generated for equal traces and values has its first zero denominator at one place
pub zero_along : {F E : Type 0} (f : Ring F) (e : Ring E) (inv : E → E) (embed : F → E) (lookups : List (LookupData F)) (challenges : List E) (row lookup tuple : ℕ) (t u : Rows F) (o q : Option (Rows F)) (v w : List F)
    → t ≡ u → o ≡ q → v ≡ w → IsFirstZeroOf (argument_over f e inv embed t o v lookups challenges) (height t) row lookup tuple → IsFirstZeroOf (argument_over f e inv embed u q w lookups challenges) (height u) row lookup tuple
zero_along {F} f e inv embed lookups challenges row lookup tuple t u o q v w same_trace same_preprocessed same_values h =
    subst (λ (x : Rows F). IsFirstZeroOf (argument_over f e inv embed x q w lookups challenges) (height x) row lookup tuple) same_trace
    (subst (λ (x : Option (Rows F)). IsFirstZeroOf (argument_over f e inv embed t x w lookups challenges) (height t) row lookup tuple) same_preprocessed
    (subst (λ (x : List F). IsFirstZeroOf (argument_over f e inv embed t o x lookups challenges) (height t) row lookup tuple) same_values h))
