-- The permutation columns that an honest prover commits to. After Plonky3's p3-lookup (generate_permutation).
use Rattle.std.specs.Prelude.{ℕ, zero, suc, ◌+◌, ◌*◌, List, [], ◌∷◌, map, All}
use Rattle.std.specs.Prelude.{slice_index_or as get_or}
use Rattle.p3_field.specs.Ring.{Ring}
use Rattle.p3_field.specs.Poly.{total}
use Rattle.air_core.specs.Tree.{Tree}
use Rattle.p3_lookup.specs.Lookup.{LookupData, Sent, map_sent, sent}
use Rattle.p3_lookup.specs.Term.{Term, term, sum_of, fraction, HasInverses}

-- what fixes a table's permutation columns: the field of the challenges, the table's lookups, two challenges for each
-- of them, its base and beta, and the value of a tree in each row
pub record Argument (F E : Type 0) : Type 0 where
  pub ring : Ring E
  pub inv : E → E
  pub challenges : List E
  pub lookups : List (LookupData F)
  pub value : ℕ → Tree F → E

-- the terms of what is sent, under this base and beta
abbrev pub terms_of : {F E : Type 0} → Ring E → E → E → (Tree F → E) → List (Sent (Tree F)) → List (Term E)
terms_of e base beta value ss = map (λ s. term e base beta (map_sent value s)) ss

-- the terms of lookup n
abbrev pub lookup_terms : {F E : Type 0} → Ring E → List E → (Tree F → E) → ℕ → LookupData F → List (Term E)
lookup_terms e challenges value n l =
    terms_of e (get_or challenges (2 * n) e.zero) (get_or challenges (2 * n + 1) e.zero) value (sent l)

-- the terms of each lookup, these being the lookups from n on
abbrev pub terms_from : {F E : Type 0} → Ring E → List E → (Tree F → E) → ℕ → List (LookupData F) → List (List (Term E))
terms_from e challenges value n [] = []
terms_from e challenges value n (l ∷ ls) = lookup_terms e challenges value n l ∷ terms_from e challenges value (suc n) ls

-- the terms of each lookup in row i
abbrev pub row_terms : {F E : Type 0} → Argument F E → ℕ → List (List (Term E))
row_terms p i = terms_from p.ring p.challenges (p.value i) 0 p.lookups

-- the fractions of row i, one for each lookup
abbrev pub row_fractions : {F E : Type 0} → Argument F E → ℕ → List E
row_fractions p i = map (fraction p.ring p.inv) (row_terms p i)

-- the sum of all fractions in the first i rows: the running sum before row i, and of all rows the terminal
abbrev pub running_sum : {F E : Type 0} → Argument F E → ℕ → E
running_sum p i = total p.ring i (λ k. sum_of p.ring (row_fractions p k))

-- the honest cell in row i and a column: the running sum, then the fractions
abbrev pub honest_cell : {F E : Type 0} → Argument F E → ℕ → ℕ → E
honest_cell p i zero = running_sum p i
honest_cell p i (suc n) = get_or (row_fractions p i) n p.ring.zero

-- no denominator is zero in row i
abbrev pub RowHasInverses : {F E : Type 0} → Argument F E → ℕ → Type 0
RowHasInverses p i = All (HasInverses p.ring) (row_terms p i)

abbrev pub argument : {F E : Type 0} → Ring E → (E → E) → List E → List (LookupData F) → (ℕ → Tree F → E) → Argument F E
argument e inv challenges lookups value = record { ring = e; inv = inv; challenges = challenges; lookups = lookups; value = value }
