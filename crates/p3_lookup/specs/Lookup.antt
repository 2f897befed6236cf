-- Lookups as data: the tuples that a table sends on a bus, and how often. After Plonky3's p3-lookup (Lookup).
use Rattle.std.specs.Prelude.{◌≡◌, ℕ, ◌*◌, ◌<◌, ◌≤◌, List, [], ◌∷◌, length, map, All}
use Rattle.p3_field.specs.Poly.{tabulate}
use Rattle.air_core.specs.declared.cells.Count.{Count}
use Rattle.air_core.specs.Tree.{Tree, Bus, Interaction, tuple_at}
use Rattle.air_core.specs.Shape.{Shape, ReadsSendable}

-- whom a lookup speaks to, its tuples, and a count for each
pub record LookupData (F : Type 0) : Type 0 where
  pub bus : Bus
  pub tuples : List (List (Tree F))
  pub counts : List (Count (Tree F))

-- there is one count for each tuple
abbrev pub HasCountForEach : {F : Type 0} → LookupData F → Type 0
HasCountForEach l = length l.counts ≡ length l.tuples

-- the lookup reads constants and what a table of this shape may send: public values, main and preprocessed cells
pub record ReadsSent {F : Type 0} (s : Shape) (l : LookupData F) : Type 0 where
  pub tuples : All (All (ReadsSendable s)) l.tuples
  pub counts : All (λ c. ReadsSendable s c.value) l.counts

-- a lookup of a well-formed table
pub record IsLookup {F : Type 0} (s : Shape) (l : LookupData F) : Type 0 where
  pub counted : HasCountForEach l
  pub reads : ReadsSent s l

-- the lookup of an interaction: its tuples one by one
abbrev pub lookup_of : {F : Type 0} → Interaction F → LookupData F
lookup_of i = record { bus = i.bus; tuples = tabulate (length i.counts) (tuple_at i); counts = i.counts }

-- a table's lookups: one for each of its interactions, in order
abbrev pub lookups_of : {F : Type 0} → List (Interaction F) → List (LookupData F)
lookups_of is = map lookup_of is

-- a tuple and how often it is sent
pub record Sent (A : Type 0) : Type 0 where
  pub tuple : List A
  pub count : A

abbrev pub map_sent : {A B : Type 0} → (A → B) → Sent A → Sent B
map_sent f s = record { tuple = map f s.tuple; count = f s.count }

-- each tuple with the count at its place
abbrev pub pair_up : {F : Type 0} → List (List (Tree F)) → List (Count (Tree F)) → List (Sent (Tree F))
pair_up [] cs = []
pair_up (t ∷ ts) [] = []
pair_up (t ∷ ts) (c ∷ cs) = record { tuple = t; count = c.value } ∷ pair_up ts cs

-- what the lookup sends, tuple by tuple
abbrev pub sent : {F : Type 0} → LookupData F → List (Sent (Tree F))
sent l = pair_up l.tuples l.counts

-- a builder of this shape has what the constraints of these lookups read: a permutation column for the running sum and
-- one for each lookup, two challenges for each, and the terminal
pub record FitLookups {F : Type 0} (s : Shape) (ls : List (LookupData F)) : Type 0 where
  pub lookups : All (IsLookup s) ls
  pub columns : 0 < length ls → length ls < s.permutation
  pub challenges : 2 * length ls ≤ s.challenges
  pub terminal : 0 < length ls → 0 < s.terminals
