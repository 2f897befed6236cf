-- The buses of a job carry too little to reach the order of the field.
use Rattle.std.proofs.Common.{◌≡◌, ℕ, zero, suc, ◌+◌, ◌*◌, ◌<◌, ◌≤◌, Bool, true, false, cond, List, [], ◌∷◌, ◌++◌, length, get_or, map, arith}
use Rattle.std.specs.Prelude.{◌==◌}
use Rattle.p3_field.specs.Ring.{Ring}
use Rattle.p3_lookup.specs.Bound.{HaveLoadsBelow, batch_loads, load_where}
use Rattle.p3_lookup.specs.Bus.{batch_buses, sum_of_bounds, bus_number}
use Rattle.p3_lookup.specs.Lookup.{LookupData}
use Rattle.law_tool_valid.specs.Job.{JobTable, swap_of, wheel_of, take_of, give_of, hash_of}
use Rattle.law_tool_valid.specs.Laws.Messages.{own_lookups}

-- the sum of a list of loads
abbrev total : List ℕ → ℕ
total [] = 0
total (x ∷ xs) = x + total xs

total_append : (xs ys : List ℕ) → total (xs ++ ys) ≡ total xs + total ys
total_append [] ys = omega arith
total_append (x ∷ xs) ys = let e = total_append xs ys in omega (arith, e)

-- the load of a bus is at most the sum of all loads
some_load : (b : Bool) (x : ℕ) → cond b x 0 ≤ x
some_load true x = omega arith
some_load false x = omega arith

load_below : (test : ℕ → Bool) (n : ℕ) (xs : List ℕ) → load_where test n xs ≤ total xs
load_below test n [] = omega arith
load_below test n (x ∷ xs) = let p = some_load (test n) x in let q = load_below test (suc n) xs in omega (arith, p, q)

module _ {F : Type 0} (r : Ring F) where
  -- the bounds of a table's lookups, times its height
  own_load : (j : JobTable F) (h : ℕ) → h ≤ 1024 → total (map (λ (l : LookupData F). sum_of_bounds l.counts * h) (own_lookups r j)) ≤ 1048576
  own_load (swap_of k a b) h few = omega arith
  own_load (wheel_of k) h few = omega arith
  own_load (take_of words) h few = omega (arith, few)
  own_load (give_of pairs) h few = omega (arith, few)
  own_load (hash_of rows) h few = omega arith

  loads_below : (job : List (JobTable F)) (hs : List ℕ) → ((i : ℕ) → i < length hs → get_or hs i 0 ≤ 1024) → total (batch_loads (map (own_lookups r) job) hs) ≤ length job * 1048576
  loads_below [] hs few = omega arith
  loads_below (j ∷ job) [] few = omega arith
  loads_below (j ∷ job) (h ∷ hs) few =
      let first = own_load j h (few zero (omega arith)) in
      let rest = loads_below job hs (λ i l. few (suc i) (omega (arith, l))) in
      let e = total_append (map (λ (l : LookupData F). sum_of_bounds l.counts * h) (own_lookups r j)) (batch_loads (map (own_lookups r) job) hs) in
      omega (arith, first, rest, e)

  -- so eight tables of at most 1024 rows are bounded
  pub job_bounded : (order : ℕ) (job : List (JobTable F)) (hs : List ℕ) → 8388608 < order → length job ≤ 8 → ((i : ℕ) → i < length hs → get_or hs i 0 ≤ 1024) → HaveLoadsBelow order (map (own_lookups r) job) hs
  job_bounded order job hs large few low b h =
      let one = load_below (λ n. bus_number (batch_buses (map (own_lookups r) job)) n == b) 0 (batch_loads (map (own_lookups r) job) hs) in
      let all = loads_below job hs low in
      omega (arith, one, all, few, large)
