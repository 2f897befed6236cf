-- Openings of a multilinear polynomial whose values are themselves the commitment.
use Rattle.std.specs.Prelude.{◌≡◌, ℕ, ◌^◌, List, [], ◌∷◌, ◌++◌, length, map, All}
use Rattle.std.specs.Prelude.{slice_index_or as get_or}
use Rattle.std.specs.List.{fold}
use Rattle.p3_field.specs.Ring.{Ring, of_nat}
use Rattle.p3_field.specs.Checks.{Check, check, FirstFails, in_turn, IsFirstFailing}
use Rattle.plain_pcs.specs.Multilinear.{multilinear_value}
use Rattle.plain_pcs.specs.declared.plain_multilinear.PlainMultilinearError.{PlainMultilinearError}
use Rattle.plain_pcs.specs.declared.plain_multilinear.PlainMultilinearError.TheVariants.{Length, PointLength, Count, Value}
use Rattle.plain_pcs.specs.declared.plain_multilinear.PlainMultilinearProverError.{PlainMultilinearProverError}
use Rattle.plain_pcs.specs.declared.plain_multilinear.PlainMultilinearProverError.TheVariants.{Length as ProverLength, PointLength as ProverPointLength}

-- the state of a challenger that has taken in the number of values, and then each value
abbrev pub after_values : {F C : Type 0} → Ring F → (C → F → C) → List F → C → C
after_values r observe vs c = fold observe (observe c (of_nat r (length vs))) vs

-- there is a value for each place of m bits
abbrev pub HasValues : {F : Type 0} → ℕ → List F → Type 0
HasValues m vs = length vs ≡ 2 ^ m

-- each point has m coordinates
abbrev pub HaveCoordinates : {E : Type 0} → ℕ → List (List E) → Type 0
HaveCoordinates m points = All (λ x. length x ≡ m) points

-- point i is the first that has another number
abbrev pub IsFirstUnfit : {E : Type 0} → ℕ → List (List E) → ℕ → Type 0
IsFirstUnfit m points i = IsFirstFailing (length points) (λ j. length (get_or points j []) ≡ m) i

-- the values at the points
abbrev pub multilinear_values_at : {F E : Type 0} → Ring E → (F → E) → List F → List (List E) → List E
multilinear_values_at s embed vs points = map (multilinear_value s (map embed vs)) points

-- the claimed values are those at the points
pub record AreValuesAt {F E : Type 0} (s : Ring E) (embed : F → E) (m : ℕ) (vs : List F) (points : List (List E)) (ys : List E) : Type 0 where
  pub has_values : HasValues m vs
  pub coordinates : HaveCoordinates m points
  pub values : ys ≡ multilinear_values_at s embed vs points

-- claimed value i is the first of two lists of the same length that differs
abbrev pub IsFirstDifferent : {E : Type 0} → Ring E → List E → List E → ℕ → Type 0
IsFirstDifferent s ys zs i = IsFirstFailing (length zs) (λ j. get_or ys j s.zero ≡ get_or zs j s.zero) i

-- the checks of claimed values: the commitment's length, the points' coordinates, the number of the values, and each value
abbrev pub point_check : {E : Type 0} → ℕ → List (List E) → ℕ → List (Check PlainMultilinearError)
point_check m points i = check (PointLength i) (length (get_or points i []) ≡ m) ∷ []

abbrev pub multilinear_value_check : {E : Type 0} → Ring E → List E → List E → ℕ → List (Check PlainMultilinearError)
multilinear_value_check s ys zs i = check (Value i) (get_or ys i s.zero ≡ get_or zs i s.zero) ∷ []

abbrev pub multilinear_claim_checks : {F E : Type 0} → Ring E → (F → E) → ℕ → List F → List (List E) → List E → List (Check PlainMultilinearError)
multilinear_claim_checks s embed m vs points ys =
    check Length (HasValues m vs) ∷ in_turn (length points) (point_check m points)
    ++ check Count (length ys ≡ length points) ∷ in_turn (length points) (multilinear_value_check s ys (multilinear_values_at s embed vs points))

-- the first fault of claimed values
abbrev pub IsClaimFault : {F E : Type 0} → Ring E → (F → E) → ℕ → List F → List (List E) → List E → PlainMultilinearError → Type 0
IsClaimFault s embed m vs points ys e = FirstFails (multilinear_claim_checks s embed m vs points ys) e

-- why a list isn't committed to: it has another length
abbrev pub IsCommitFault : {F : Type 0} → ℕ → List F → PlainMultilinearProverError → Type 0
IsCommitFault m vs ProverLength = HasValues m vs → ⊥
IsCommitFault m vs (ProverPointLength i) = ⊥

-- why a list isn't opened: it has another length than this scheme's, or a point has
abbrev pub IsOpenFault : {F E : Type 0} → ℕ → List F → List (List E) → PlainMultilinearProverError → Type 0
IsOpenFault m vs points ProverLength = HasValues m vs → ⊥
IsOpenFault m vs points (ProverPointLength i) = HasValues m vs × IsFirstUnfit m points i
