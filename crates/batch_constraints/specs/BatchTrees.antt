-- The constraints of a table with lookups: the AIR's, and after them those of its lookups. After Plonky3's p3-batch-stark
-- (get_symbolic_constraints, get_constraint_layout).
use Rattle.std.specs.Prelude.{ℕ, zero, suc, ◌+◌, ◌*◌, List, ◌++◌, map, All}
use Rattle.p3_field.specs.Ring.{Ring}
use Rattle.p3_field.specs.Poly.{tabulate}
use Rattle.air_core.specs.declared.layout.AirLayout.{AirLayout}
use Rattle.air_core.specs.Layout.{Places}
use Rattle.air_core.specs.Shape.{Declaration, declared_shape}
use Rattle.air_core.specs.Tree.{Tree, Asserted, over_base, over_extension}
use Rattle.p3_lookup.specs.Lookup.{LookupData, IsLookup}
use Rattle.p3_lookup.specs.Trees.{lookup_trees}

-- the constraints of a table whose AIR has these trees: the AIR's, then those of its lookups
abbrev pub table_trees : {F : Type 0} → Ring F → List (Tree F) → List (LookupData F) → List (Tree F)
table_trees f trees lookups = trees ++ lookup_trees f lookups

-- the same as a builder takes them: the AIR's over the base field, those of the lookups over the extension
abbrev pub batch_trees : {F : Type 0} → Ring F → List (Tree F) → List (LookupData F) → List (Asserted F)
batch_trees f trees lookups = map over_base trees ++ map over_extension (lookup_trees f lookups)

-- The lookups of a table that declares this: each has a count for each tuple, and reads constants and what the table may
-- send, next cells only in declared next columns.
abbrev pub AreLookupsOf : {F : Type 0} → Declaration F → List (LookupData F) → Type 0
AreLookupsOf d lookups = All (IsLookup (declared_shape d)) lookups

-- The layout of a table with this many lookups: a permutation column for the running sum and one for each lookup, two
-- challenges for each, and one terminal. Without lookups there is none of these.
abbrev pub layout_with : AirLayout → ℕ → AirLayout
layout_with l zero = record l { permutation_width = 0; num_permutation_challenges = 0; num_permutation_values = 0 }
layout_with l (suc n) = record l { permutation_width = suc n + 1; num_permutation_challenges = suc n * 2; num_permutation_values = 1 }

-- the places of n constraints over the base field and of m after them over the extension
abbrev pub places_of : ℕ → ℕ → Places
places_of n m = record { base_indices = tabulate n (λ i. i); ext_indices = tabulate m (λ i. n + i) }
