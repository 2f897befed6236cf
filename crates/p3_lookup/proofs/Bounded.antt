-- Turns of the loops of the bound on multiplicities.
use Rattle.std.proofs.Common.{◌≡◌, ℕ, ◌+◌, ◌*◌, ◌<◌, ◌≤◌, min, Bool, true, false, cond, not, ◌||◌, List, [], ◌∷◌, length, get_or, map, take, drop, sym, ◌∙◌, ap, arith}
use Rattle.std.specs.Prelude.{◌==◌}
use Rattle.std.specs.List.{list_any}
use Rattle.std.proofs.lemmas.Bool.{or_from}
use Rattle.std.proofs.lemmas.List.{length-map, length-take-le, get_or-take, get_or-map, drop_more}
use Rattle.std.proofs.lemmas.List.Folds.{list_any_at, list_any_more, fold-map}
use Rattle.std.proofs.lemmas.List.Sums.{sum_by-drop_more}
use Rattle.air_core.specs.declared.cells.Count.{Count}
use Rattle.air_core.specs.declared.node.Node.{Node}
use Rattle.air_core.specs.Tree.{Tree, Bus, local}
use Rattle.p3_lookup.specs.Lookup.{LookupData}
use Rattle.p3_lookup.specs.Bus.{opener, batch_buses, lookups_before, sum_of_bounds}
use Rattle.p3_lookup.specs.Bound.{batch_loads}
use Rattle.p3_lookup.specs.Packing.{same_name}
use Rattle.p3_lookup.specs.Written.{Written, read, read_all, tree_count}
use Rattle.p3_lookup.specs.Loads.{is_named_among, named_load, named_loads}
use Rattle.p3_lookup.specs.Laws.Places.{bus_at, place_within}
use Rattle.p3_lookup.specs.Laws.Bound.{load_at_place, opens_at}

-- an item of the first n passes
pub any_found : {X : Type 0} (p : X → Bool) (xs : List X) (n i : ℕ) (x : X) → i < n → n ≤ length xs → get_or xs i x ≡ x → p x ≡ true → list_any p (take n xs) ≡ true
any_found p xs n i x h le at e =
    list_any_at p (take n xs) i x (omega (arith, h, length-take-le n xs le)) (ap p (get_or-take n xs i x h ∙ at) ∙ e)

pub any_more : {X : Type 0} (p : X → Bool) (xs : List X) (i : ℕ) (x : X) → i < length xs → get_or xs i x ≡ x → p x ≡ false → list_any p (take i xs) ≡ false → list_any p (take (i + 1) xs) ≡ false
any_more p xs i x h at e none = list_any_more p xs i x h ∙ or_from (list_any p (take i xs)) (p (get_or xs i x)) none (ap p at ∙ e)

-- one summand of a load more
pub limited : (limit load x rest next whole : ℕ) → next ≡ min limit (load + x) → min limit (load + (x + rest)) ≡ whole → min limit (next + rest) ≡ whole
limited limit load x rest next whole e h = omega (arith, e, h)

-- a count's bound times the height, and those of the counts after it
pub bounds_turn : {E : Type 0} (cs : List (Count E)) (i h : ℕ) (c : Count E) → i < length cs → get_or cs i c ≡ c → sum_of_bounds (drop i cs) * h ≡ c.bound * h + sum_of_bounds (drop (i + 1) cs) * h
bounds_turn {E = E} cs i h c lt at =
    let one : sum_of_bounds (drop i cs) ≡ c.bound + sum_of_bounds (drop (i + 1) cs) =
    sum_by-drop_more (λ k. k.bound) cs i c lt ∙ ap (λ (k : Count E). k.bound + sum_of_bounds (drop (i + 1) cs)) at in
    ap (λ k. k * h) one ∙ spread c.bound (sum_of_bounds (drop (i + 1) cs)) h
  where
    spread : (a b k : ℕ) → (a + b) * k ≡ a * k + b * k
    spread a b k = omega arith

-- the loads of a lookup, and of those after it
pub loads_turn : {F : Type 0} (b : Bus) (h : ℕ) (ls : List (LookupData F)) (i : ℕ) (l : LookupData F) → i < length ls → get_or ls i l ≡ l
    → named_load b h (drop i ls) ≡ cond (same_name b l.bus) (sum_of_bounds l.counts * h) 0 + named_load b h (drop (i + 1) ls)
loads_turn b h ls i l lt at = ap (named_load b h) (drop_more ls i l lt ∙ ap (λ k. k ∷ drop (i + 1) ls) at)

pub tables_turn : {F : Type 0} (b : Bus) (tables : List (List (LookupData F))) (hs : List ℕ) (i : ℕ) (ls : List (LookupData F)) → i < length tables → i < length hs → get_or tables i [] ≡ ls
    → named_loads b (drop i tables) (drop i hs) ≡ named_load b (get_or hs i 0) ls + named_loads b (drop (i + 1) tables) (drop (i + 1) hs)
tables_turn b tables hs i ls lt in-hs at =
    ap (λ l. named_loads b l (drop i hs)) (drop_more tables i [] lt ∙ ap (λ k. k ∷ drop (i + 1) tables) at)
    ∙ ap (λ l. named_loads b (ls ∷ drop (i + 1) tables) l) (drop_more hs i 0 in-hs)

-- the bounds are those of the counts as trees
pub bounds_read : {F : Type 0} (cs : List (Count (List (Node F)))) → sum_of_bounds (map tree_count cs) ≡ sum_of_bounds cs
bounds_read {F = F} cs = fold-map (λ (a : ℕ) (k : Count (Tree F)). a + k.bound) tree_count 0 cs

-- the lookup at a place of a batch as a program holds it
module _ {F : Type 0} (ws : List (List (Written F))) (t k : ℕ) (own : List (Written F)) (x : Written F) (h : t < length ws) (at-own : own ≡ get_or ws t own) (lt : k < length own) (at-x : x ≡ get_or own k x) where
  abbrev tables : List (List (LookupData F))
  tables = map read_all ws

  pub table_is : get_or tables t [] ≡ read_all own
  table_is = get_or-map read_all ws t own [] h ∙ ap read_all (sym at-own)

  pub table_within : t < length tables
  table_within = omega (arith, h, length-map ws (read_all {F = F}))

  pub inside : k < length (get_or tables t [])
  inside = omega (arith, lt, ap length table_is, length-map own (read {F = F}))

  item_is : get_or (get_or tables t []) k (read x) ≡ read x
  item_is = ap (λ l. get_or l k (read x)) table_is ∙ get_or-map read own k x (read x) lt ∙ ap read (sym at-x)

  pub place_in : lookups_before tables t + k < length (batch_buses tables)
  place_in = place_within tables t k table_within inside

  pub bus_is : get_or (batch_buses tables) (lookups_before tables t + k) local ≡ x.bus
  bus_is = bus_at tables t k (read x) table_within inside ∙ ap (λ (l : LookupData F). l.bus) item_is

  pub load_is : (hs : List ℕ) → length hs ≡ length ws → get_or (batch_loads tables hs) (lookups_before tables t + k) 0 ≡ sum_of_bounds x.multiplicities * get_or hs t 0
  load_is hs e =
      load_at_place tables hs t k (read x) table_within (omega (arith, e, length-map ws (read_all {F = F}))) inside
      ∙ ap (λ (l : LookupData F). sum_of_bounds l.counts * get_or hs t 0) item_is
      ∙ ap (λ b. b * get_or hs t 0) (bounds_read x.multiplicities)

  pub opens_is : (opener (batch_buses tables) (lookups_before tables t + k) == lookups_before tables t + k)
      ≡ not (list_any (is_named_among x.bus) (take t tables) || is_named_among x.bus (take k (read_all own)))
  opens_is =
      opens_at tables t k x.bus (read x) table_within inside (ap (λ (l : LookupData F). l.bus) item_is)
      ∙ ap (λ (l : List (LookupData F)). not (list_any (is_named_among x.bus) (take t tables) || is_named_among x.bus (take k l))) table_is
