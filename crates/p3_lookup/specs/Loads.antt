-- What private functions of the bound on multiplicities compute.
use Rattle.std.specs.Prelude.{◌≡◌, ℕ, ◌+◌, ◌*◌, ◌<◌, cond, Bool, List, [], ◌∷◌}
use Rattle.std.specs.List.{list_any}
use Rattle.air_core.specs.Tree.{Bus}
use Rattle.p3_lookup.specs.Lookup.{LookupData}
use Rattle.p3_lookup.specs.Bus.{opened_below, batch_buses, sum_of_bounds}
use Rattle.p3_lookup.specs.Packing.{same_name}
use Rattle.p3_lookup.specs.Bound.{bus_load, capped}

-- one of the lookups is on this bus, which has a name
abbrev pub is_named_among : {F : Type 0} → Bus → List (LookupData F) → Bool
is_named_among b ls = list_any (λ l. same_name b l.bus) ls

-- the loads of those lookups of a table of height h that are on this bus, which has a name
abbrev pub named_load : {F : Type 0} → Bus → ℕ → List (LookupData F) → ℕ
named_load b h [] = 0
named_load b h (l ∷ ls) = cond (same_name b l.bus) (sum_of_bounds l.counts * h) 0 + named_load b h ls

-- the same of all tables of a batch
abbrev pub named_loads : {F : Type 0} → Bus → List (List (LookupData F)) → List ℕ → ℕ
named_loads b [] hs = 0
named_loads b (ls ∷ tables) [] = 0
named_loads b (ls ∷ tables) (h ∷ hs) = named_load b h ls + named_loads b tables hs

-- the buses that the first n lookups of a batch open are counted, and their loads are below the order
pub record AreBoundedBelow {F : Type 0} (order : ℕ) (tables : List (List (LookupData F))) (heights : List ℕ) (n opened : ℕ) : Type 0 where
  pub counted : opened ≡ capped (opened_below (batch_buses tables) n)
  pub below : (b : ℕ) → b < opened_below (batch_buses tables) n → bus_load tables heights b < order
