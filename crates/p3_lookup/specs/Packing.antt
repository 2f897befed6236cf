-- Lookups of one name packed into fewer ones, as far as the degree of a constraint allows. After Plonky3's p3-lookup
-- (pack_same_bus_with_degree); the order is this project's own.
use Rattle.std.specs.Prelude.{◌≡◌, ℕ, ◌&&◌, bytes_eq, nat_le, cond, Bool, true, false, List, [], ◌∷◌, ◌++◌, map, flat_map, zip, count_by}
use Rattle.p3_field.specs.Ring.{Ring}
use Rattle.air_core.specs.declared.cells.Count.{Count}
use Rattle.air_core.specs.Tree.{Tree, Bus, local, global}
use Rattle.air_core.specs.Degree.{multiple}
use Rattle.p3_lookup.specs.Lookup.{LookupData}
use Rattle.air_core.specs.Degree.{greatest}
use Rattle.p3_lookup.specs.Trees.{lookup_trees}

-- the largest degree of the constraints of a table with this lookup alone, where the transition selector has degree t
abbrev pub lookup_degree : {F : Type 0} → Ring F → ℕ → LookupData F → ℕ
lookup_degree f t l = greatest 0 (map (multiple t) (lookup_trees f (l ∷ [])))

-- the tuples of both, on the bus of the first
abbrev pub merged : {F : Type 0} → LookupData F → LookupData F → LookupData F
merged k l = record { bus = k.bus; tuples = k.tuples ++ l.tuples; counts = k.counts ++ l.counts }

-- both are global buses, and of one name
abbrev pub same_name : Bus → Bus → Bool
same_name local b = false
same_name (global name) local = false
same_name (global name) (global other) = bytes_eq name other

-- a kept lookup takes in another one: both have one name, and the merged one keeps to the budget
abbrev pub takes_in : {F : Type 0} → Ring F → ℕ → ℕ → LookupData F → LookupData F → Bool
takes_in f t budget k l = same_name k.bus l.bus && nat_le (lookup_degree f t (merged k l)) budget

-- the lookup is merged into the first kept one that takes it in, or else kept after them
abbrev pub with_lookup : {F : Type 0} → Ring F → ℕ → ℕ → List (LookupData F) → LookupData F → List (LookupData F)
with_lookup f t budget [] l = l ∷ []
with_lookup f t budget (k ∷ ks) l = cond (takes_in f t budget k l) (merged k l ∷ ks) (k ∷ with_lookup f t budget ks l)

-- all lookups in order, where these are kept already
abbrev pub packed_onto : {F : Type 0} → Ring F → ℕ → ℕ → List (LookupData F) → List (LookupData F) → List (LookupData F)
packed_onto f t budget ks [] = ks
packed_onto f t budget ks (l ∷ ls) = packed_onto f t budget (with_lookup f t budget ks l) ls

abbrev pub packed : {F : Type 0} → Ring F → ℕ → ℕ → List (LookupData F) → List (LookupData F)
packed f t budget ls = packed_onto f t budget [] ls

-- the buses are one: both local, or of one name
abbrev pub same_bus : Bus → Bus → Bool
same_bus local local = true
same_bus local (global name) = false
same_bus (global name) b = same_name (global name) b

-- what a lookup sends on a bus: each tuple with its count
abbrev pub sent_on : {F : Type 0} → Bus → LookupData F → List (List (Tree F) × Count (Tree F))
sent_on b l = cond (same_bus b l.bus) (zip l.tuples l.counts) []

-- how many tuples with their counts, among those that the lookups send on a bus, pass a test
abbrev pub times_sent : {F : Type 0} → (List (Tree F) × Count (Tree F) → Bool) → Bus → List (LookupData F) → ℕ
times_sent test b ls = count_by test (flat_map (sent_on b) ls)

-- each tuple with its count stands in lookups of the same kind and name as often as before
abbrev pub SendTheSame : {F : Type 0} → List (LookupData F) → List (LookupData F) → Type 0
SendTheSame {F = F} old new = (test : List (Tree F) × Count (Tree F) → Bool) (b : Bus) → times_sent test b new ≡ times_sent test b old
