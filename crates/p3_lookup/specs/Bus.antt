-- The numbers of the buses of a batch, in the order of its tables and of their lookups: a local lookup opens a bus of
-- its own, and the first lookup that names a bus opens that. The rule is this project's own.
use Rattle.std.specs.Prelude.{◌≡◌, ◌≢◌, ◌↔◌, ℕ, zero, suc, ◌+◌, ◌<◌, ◌==◌, bytes_eq, cond, Bool, false, List, [], ◌∷◌, length, map, flat_map, max, sum_by, All}
use Rattle.std.specs.Prelude.{slice_index_or as get_or}
use Rattle.std.specs.List.{position_or_len}
use Rattle.air_core.specs.declared.cells.Count.{Count}
use Rattle.air_core.specs.Tree.{Tree, Bus, local, global}
use Rattle.p3_lookup.specs.Lookup.{LookupData}

-- the bus has this name
abbrev pub is_named : List ℕ → Bus → Bool
is_named name local = false
is_named name (global other) = bytes_eq name other

-- the place of the lookup that opens the bus of the lookup at place i: its own where that is local, else the first of
-- its name
abbrev pub opener_of : List Bus → ℕ → Bus → ℕ
opener_of bs i local = i
opener_of bs i (global name) = position_or_len (is_named name) bs

abbrev pub opener : List Bus → ℕ → ℕ
opener bs i = opener_of bs i (get_or bs i local)

-- how many of the first n lookups open a bus
unfoldable pub opened_below : List Bus → ℕ → ℕ
opened_below bs zero = 0
opened_below bs (suc n) = opened_below bs n + cond (opener bs n == n) 1 0

-- the number of a lookup's bus: how many buses were opened before it
abbrev pub bus_number : List Bus → ℕ → ℕ
bus_number bs i = opened_below bs (opener bs i)

-- how many buses there are
abbrev pub bus_count : List Bus → ℕ
bus_count bs = opened_below bs (length bs)

-- the buses of a batch's lookups, table after table
abbrev pub batch_buses : {F : Type 0} → List (List (LookupData F)) → List Bus
batch_buses tables = flat_map (map (λ l. l.bus)) tables

-- how many lookups the first n tables have
abbrev pub lookups_before : {F : Type 0} → List (List (LookupData F)) → ℕ → ℕ
lookups_before tables zero = 0
lookups_before [] (suc n) = 0
lookups_before (ls ∷ tables) (suc n) = length ls + lookups_before tables n

-- the number of the bus of lookup n of table t
abbrev pub bus_in : {F : Type 0} → List (List (LookupData F)) → ℕ → ℕ → ℕ
bus_in tables t n = bus_number (batch_buses tables) (lookups_before tables t + n)

-- the width of the widest tuple, at least one
abbrev pub widest_of : {F : Type 0} → ℕ → List (List (Tree F)) → ℕ
widest_of w [] = w
widest_of w (t ∷ ts) = widest_of (max w (length t)) ts

abbrev pub widest : {F : Type 0} → List (List (LookupData F)) → ℕ
widest tables = widest_of 1 (flat_map (flat_map (λ l. l.tuples)) tables)

-- the sum of a lookup's bounds
abbrev pub sum_of_bounds : {A : Type 0} → List (Count A) → ℕ
sum_of_bounds cs = sum_by (λ c. c.bound) cs

-- the lookups at these places name one bus
pub record NameOneBus (bs : List Bus) (i j : ℕ) : Type 0 where
  pub name : List ℕ
  pub first : get_or bs i local ≡ global name
  pub second : get_or bs j local ≡ global name

-- two different lookups of a batch have one bus exactly where both name it
abbrev pub SharesByName : List Bus → Type 0
SharesByName bs = (i j : ℕ) → i < length bs → j < length bs → i ≢ j → (bus_number bs i ≡ bus_number bs j) ↔ NameOneBus bs i j

-- all tuples on one bus have one width, these being the lookups of a batch, table after table
abbrev pub HaveOneWidth : {F : Type 0} → List (LookupData F) → Type 0
HaveOneWidth {F = F} ls =
    (i j : ℕ) (d : LookupData F) → i < length ls → j < length ls → bus_number (map (λ l. l.bus) ls) i ≡ bus_number (map (λ l. l.bus) ls) j
    → All (λ s. All (λ t. length t ≡ length s) (get_or ls j d).tuples) (get_or ls i d).tuples
