-- Packing lookups keeps a table's chunk count, where the budget is at most the free one.
use Rattle.std.proofs.Common.{◌≡◌, ℕ, zero, suc, ◌+◌, ◌-◌, ◌*◌, ◌<◌, ◌≤◌, Bool, true, false, ◌&&◌, cond, List, [], ◌∷◌, ◌++◌, length, map, max, refl, sym, ◌∙◌, ap, subst, arith}
use Rattle.std.specs.Prelude.{All, nat_le}
use Rattle.std.specs.Int.{div_ceil}
use Rattle.std.proofs.Math.Nat.{mul-le-mul_left, mul-le-mul_right}
use Rattle.std.proofs.lemmas.Bool.{leb-true}
use Rattle.std.proofs.lemmas.Grind.{div_ceil_times}
use Rattle.std.proofs.lemmas.List.{map-append, length-append}
use Rattle.std.proofs.lemmas.List.Elements.{All-nil, All-head, All-tail, All-cons, All-append}
use Rattle.p3_field.specs.Ring.{Ring}
use Rattle.air_core.specs.declared.cells.Cell.{Cell}
use Rattle.air_core.specs.declared.cells.Cell.TheVariants.{Main, Preprocessed, Periodic, Public, FirstRow, LastRow, Transition}
use Rattle.air_core.specs.declared.cells.ExtCell.{ExtCell}
use Rattle.air_core.specs.declared.cells.ExtCell.TheVariants.{Permutation, Challenge}
use Rattle.air_core.specs.Degree.{degree, full_degree, cell_degree, ext_degree, cell_multiple, ext_multiple, multiple}
use Rattle.air_core.specs.Shape.{Shape, Declaration, Declares, IsSendable, ReadsSendable, declared_shape}
use Rattle.air_core.specs.Tree.{Tree, constant, cell, ext_cell, sum, difference, product}
use Rattle.p3_lookup.specs.Lookup.{LookupData, IsLookup}
use Rattle.air_core.specs.Degree.{greatest}
use Rattle.p3_lookup.specs.Packing.{lookup_degree, merged, same_name, takes_in, with_lookup, packed_onto, packed}
use Rattle.p3_lookup.specs.Trees.{fraction_tree, fraction_trees, running_trees, lookup_trees}
use Rattle.batch_constraints.specs.BatchTrees.{table_trees, AreLookupsOf}
use Rattle.batch_constraints.specs.Sizing.{largest_multiple, largest_degree, constraint_degree, domain_degree, periods_of, hint_of, log_ceil, log_chunks, table_log_chunks, free_budget}
use Rattle.air_core.specs.Laws.Greatest.{first_below_greatest, all_below_greatest, greatest_below}
use Rattle.batch_constraints.specs.Laws.Degrees.{div_ceil_least}
use Rattle.batch_constraints.specs.Laws.Fits.{degree_bound, ext_bound}
use Rattle.batch_constraints.specs.Laws.Fractions.{HasOneDegree, merged_left, merged_right, fraction_numbered, running_counted}
use Rattle.batch_constraints.specs.Laws.Logarithms.{log_ceil_enough, log_ceil_least}
use Rattle.batch_constraints.specs.Laws.TreesRead.{fraction_reads}

-- a lookup that takes in another has the merged one in the budget
both : (a b : Bool) → (a && b) ≡ true → b ≡ true
both true b h = h
both false b h = absurd (cc h)

in_budget : {F : Type 0} (r : Ring F) (t budget : ℕ) (k l : LookupData F) → takes_in r t budget k l ≡ true → lookup_degree r t (merged k l) ≤ budget
in_budget r t budget k l h =
    leb-true (lookup_degree r t (merged k l)) budget (both (same_name k.bus l.bus) (nat_le (lookup_degree r t (merged k l)) budget) h)

-- some lookups that are packed are still some
with_some : {F : Type 0} (r : Ring F) (t budget : ℕ) (ks : List (LookupData F)) (l : LookupData F) → 0 < length (with_lookup r t budget ks l)
with_some r t budget [] l = omega arith
with_some r t budget (k ∷ ks) l = by (takes_in r t budget k l)
  where
    by : (c : Bool) → 0 < length (cond c (merged k l ∷ ks) (k ∷ with_lookup r t budget ks l))
    by true = omega arith
    by false = omega arith

onto_some : {F : Type 0} (r : Ring F) (t budget : ℕ) (ks ls : List (LookupData F)) → 0 < length ks → 0 < length (packed_onto r t budget ks ls)
onto_some r t budget ks [] h = h
onto_some r t budget ks (l ∷ ls) h = onto_some r t budget (with_lookup r t budget ks l) ls (with_some r t budget ks l)

-- the merged lookup of two is a lookup of the table
merged_is_lookup : {F : Type 0} (s : Shape) (k l : LookupData F) → IsLookup s k → IsLookup s l → IsLookup s (merged k l)
merged_is_lookup s k l h g = record {
  counted = omega (arith, h.counted, g.counted, length-append k.counts l.counts, length-append k.tuples l.tuples);
  reads = record {
    tuples = All-append (λ ts. All (ReadsSendable s) ts) k.tuples l.tuples h.reads.tuples g.reads.tuples;
    counts = All-append (λ c. ReadsSendable s c.value) k.counts l.counts h.reads.counts g.reads.counts;
  };
}

-- so packed lookups are lookups of the table
module _ {F : Type 0} (r : Ring F) (s : Shape) (t budget : ℕ) where
  with_lookups : (ks : List (LookupData F)) (l : LookupData F) → All (IsLookup s) ks → IsLookup s l → All (IsLookup s) (with_lookup r t budget ks l)
  with_lookups [] l h own = All-cons (IsLookup s) l [] own h
  with_lookups (k ∷ ks) l h own = by (takes_in r t budget k l) (with_lookups ks l (All-tail (IsLookup s) k ks h) own)
    where
      by : (c : Bool) → All (IsLookup s) (with_lookup r t budget ks l) → All (IsLookup s) (cond c (merged k l ∷ ks) (k ∷ with_lookup r t budget ks l))
      by true rest = All-cons (IsLookup s) (merged k l) ks (merged_is_lookup s k l (All-head (IsLookup s) k ks h) own) (All-tail (IsLookup s) k ks h)
      by false rest = All-cons (IsLookup s) k (with_lookup r t budget ks l) (All-head (IsLookup s) k ks h) rest

  onto_lookups : (ks ls : List (LookupData F)) → All (IsLookup s) ks → All (IsLookup s) ls → All (IsLookup s) (packed_onto r t budget ks ls)
  onto_lookups ks [] h own = h
  onto_lookups ks (l ∷ ls) h own =
      onto_lookups (with_lookup r t budget ks l) ls (with_lookups ks l h (All-head (IsLookup s) l ls own)) (All-tail (IsLookup s) l ls own)

  pub packed_lookups : (ls : List (LookupData F)) → All (IsLookup s) ls → All (IsLookup s) (packed r t budget ls)
  packed_lookups ls own = onto_lookups [] ls (All-nil (IsLookup s)) own

-- each number of the list is at most b
abbrev pub AllAtMost : ℕ → List ℕ → Type 0
AllAtMost b ns = All (λ n. n ≤ b) ns

within_left : (b : ℕ) (xs ys : List ℕ) → AllAtMost b (xs ++ ys) → AllAtMost b xs
within_left b [] ys h = All-nil (λ n. n ≤ b)
within_left b (x ∷ xs) ys h = All-cons (λ n. n ≤ b) x xs (All-head (λ n. n ≤ b) x (xs ++ ys) h) (within_left b xs ys (All-tail (λ n. n ≤ b) x (xs ++ ys) h))

within_right : (b : ℕ) (xs ys : List ℕ) → AllAtMost b (xs ++ ys) → AllAtMost b ys
within_right b [] ys h = h
within_right b (x ∷ xs) ys h = within_right b xs ys (All-tail (λ n. n ≤ b) x (xs ++ ys) h)

module _ {F : Type 0} (r : Ring F) (f : Cell → ℕ) (g : ExtCell → ℕ) (N : HasOneDegree g) (b : ℕ) where
  -- the lookup's fraction has at most degree b
  abbrev pub IsLow : LookupData F → Type 0
  IsLow l = degree f g (fraction_tree r 0 l) ≤ b

  -- the degrees of the running sum's constraints: they are the same for any number of lookups
  abbrev pub running_degrees : List ℕ
  running_degrees = map (degree f g) (running_trees r 0)

  fractions_within : (n : ℕ) (ls : List (LookupData F)) → All IsLow ls → AllAtMost b (map (degree f g) (fraction_trees r n ls))
  fractions_within n [] h = All-nil (λ m. m ≤ b)
  fractions_within n (l ∷ ls) h =
      let own = All-head IsLow l ls h in
      let same = fraction_numbered r f g N n 0 l in
      All-cons (λ m. m ≤ b) (degree f g (fraction_tree r n l)) (map (degree f g) (fraction_trees r (suc n) ls)) (omega (arith, own, same))
      (fractions_within (suc n) ls (All-tail IsLow l ls h))

  within_fractions : (n : ℕ) (ls : List (LookupData F)) → AllAtMost b (map (degree f g) (fraction_trees r n ls)) → All IsLow ls
  within_fractions n [] h = All-nil IsLow
  within_fractions n (l ∷ ls) h =
      let d = degree f g (fraction_tree r n l) in
      let ds = map (degree f g) (fraction_trees r (suc n) ls) in
      let own = All-head (λ m. m ≤ b) d ds h in
      let same = fraction_numbered r f g N n 0 l in
      All-cons IsLow l ls (omega (arith, own, same)) (within_fractions (suc n) ls (All-tail (λ m. m ≤ b) d ds h))

  -- the constraints of some lookups have at most degree b exactly where the fractions and the running sum have
  parts : (l : LookupData F) (ls : List (LookupData F)) → map (degree f g) (lookup_trees r (l ∷ ls)) ≡ map (degree f g) (fraction_trees r 0 (l ∷ ls)) ++ running_degrees
  parts l ls =
      map-append (degree f g) (fraction_trees r 0 (l ∷ ls)) (running_trees r (length (l ∷ ls)))
      ∙ ap (λ ds. map (degree f g) (fraction_trees r 0 (l ∷ ls)) ++ ds) (running_counted r f g N (length (l ∷ ls)) 0)

  lookups_within : (ls : List (LookupData F)) → 0 < length ls → All IsLow ls → AllAtMost b running_degrees → AllAtMost b (map (degree f g) (lookup_trees r ls))
  lookups_within [] some h k = absurd (omega (arith, some))
  lookups_within (l ∷ ls) some h k =
      subst (AllAtMost b) (sym (parts l ls)) (All-append (λ m. m ≤ b) (map (degree f g) (fraction_trees r 0 (l ∷ ls))) running_degrees (fractions_within 0 (l ∷ ls) h) k)

  within_lookups : (ls : List (LookupData F)) → AllAtMost b (map (degree f g) (lookup_trees r ls)) → All IsLow ls
  within_lookups [] h = All-nil IsLow
  within_lookups (l ∷ ls) h =
      within_fractions 0 (l ∷ ls) (within_left b (map (degree f g) (fraction_trees r 0 (l ∷ ls))) running_degrees (subst (AllAtMost b) (parts l ls) h))

  within_running : (ls : List (LookupData F)) → 0 < length ls → AllAtMost b (map (degree f g) (lookup_trees r ls)) → AllAtMost b running_degrees
  within_running [] some h = absurd (omega (arith, some))
  within_running (l ∷ ls) some h =
      within_right b (map (degree f g) (fraction_trees r 0 (l ∷ ls))) running_degrees (subst (AllAtMost b) (parts l ls) h)

  module _ (s : Shape) (t budget : ℕ) where
    -- no part of a kept lookup has a larger degree
    low_with : (ks : List (LookupData F)) (l : LookupData F) → All (IsLookup s) ks → All IsLow (with_lookup r t budget ks l) → All IsLow ks × IsLow l
    low_with [] l h low = (All-nil IsLow, All-head IsLow l [] low)
    low_with (k ∷ ks) l h low = by (takes_in r t budget k l) (low_with ks l (All-tail (IsLookup s) k ks h)) low
      where
        by : (c : Bool) → (All IsLow (with_lookup r t budget ks l) → All IsLow ks × IsLow l) → All IsLow (cond c (merged k l ∷ ks) (k ∷ with_lookup r t budget ks l)) → All IsLow (k ∷ ks) × IsLow l
        by true parts_low q =
            let whole = All-head IsLow (merged k l) ks q in
            let counted = (All-head (IsLookup s) k ks h).counted in
            let first = merged_left r f g 0 k l counted in
            let second = merged_right r f g 0 k l counted in
            (All-cons IsLow k ks (omega (arith, whole, first)) (All-tail IsLow (merged k l) ks q), omega (arith, whole, second))
        by false parts_low q =
            let rest = parts_low (All-tail IsLow k (with_lookup r t budget ks l) q) in
            (All-cons IsLow k ks (All-head IsLow k (with_lookup r t budget ks l) q) rest.0, rest.1)

    low_onto : (ks ls : List (LookupData F)) → All (IsLookup s) ks → All (IsLookup s) ls → All IsLow (packed_onto r t budget ks ls) → All IsLow ks × All IsLow ls
    low_onto ks [] h own low = (low, All-nil IsLow)
    low_onto ks (l ∷ ls) h own low =
        let this = All-head (IsLookup s) l ls own in
        let rest = low_onto (with_lookup r t budget ks l) ls (with_lookups r s t budget ks l h this) (All-tail (IsLookup s) l ls own) low in
        let here = low_with ks l h rest.0 in
        (here.0, All-cons IsLow l ls here.1 rest.1)

    pub unpacked_within : (ls : List (LookupData F)) → All (IsLookup s) ls → AllAtMost b (map (degree f g) (lookup_trees r (packed r t budget ls))) → AllAtMost b (map (degree f g) (lookup_trees r ls))
    unpacked_within [] own h = h
    unpacked_within (l ∷ ls) own h =
        let some = onto_some r t budget (l ∷ []) ls (omega arith) in
        let low = low_onto [] (l ∷ ls) (All-nil (IsLookup s)) own (within_lookups (packed r t budget (l ∷ ls)) h) in
        lookups_within (l ∷ ls) (omega arith) low.1 (within_running (packed r t budget (l ∷ ls)) some h)

    -- where a lookup that keeps to the budget has at most degree b, so have those that are merged
    module _ (keeps : (l : LookupData F) → IsLookup s l → lookup_degree r t l ≤ budget → degree f g (fraction_tree r 0 l) ≤ b) where
      with_low : (ks : List (LookupData F)) (l : LookupData F) → All (IsLookup s) ks → IsLookup s l → All IsLow ks → IsLow l → All IsLow (with_lookup r t budget ks l)
      with_low [] l h own low this = All-cons IsLow l [] this low
      with_low (k ∷ ks) l h own low this = by (takes_in r t budget k l) refl (with_low ks l (All-tail (IsLookup s) k ks h) own (All-tail IsLow k ks low) this)
        where
          by : (c : Bool) → takes_in r t budget k l ≡ c → All IsLow (with_lookup r t budget ks l) → All IsLow (cond c (merged k l ∷ ks) (k ∷ with_lookup r t budget ks l))
          by true e rest =
              let merges = merged_is_lookup s k l (All-head (IsLookup s) k ks h) own in
              All-cons IsLow (merged k l) ks (keeps (merged k l) merges (in_budget r t budget k l e)) (All-tail IsLow k ks low)
          by false e rest = All-cons IsLow k (with_lookup r t budget ks l) (All-head IsLow k ks low) rest

      onto_low : (ks ls : List (LookupData F)) → All (IsLookup s) ks → All (IsLookup s) ls → All IsLow ks → All IsLow ls → All IsLow (packed_onto r t budget ks ls)
      onto_low ks [] h own low all = low
      onto_low ks (l ∷ ls) h own low all =
          let this = All-head (IsLookup s) l ls own in
          onto_low (with_lookup r t budget ks l) ls (with_lookups r s t budget ks l h this) (All-tail (IsLookup s) l ls own)
          (with_low ks l h this low (All-head IsLow l ls all)) (All-tail IsLow l ls all)

      pub packed_within : (ls : List (LookupData F)) → All (IsLookup s) ls → AllAtMost b (map (degree f g) (lookup_trees r ls)) → AllAtMost b (map (degree f g) (lookup_trees r (packed r t budget ls)))
      packed_within [] own h = h
      packed_within (l ∷ ls) own h =
          let some = onto_some r t budget (l ∷ []) ls (omega arith) in
          let low = onto_low [] (l ∷ ls) (All-nil (IsLookup s)) own (All-nil IsLow) (within_lookups (l ∷ ls) h) in
          lookups_within (packed r t budget (l ∷ ls)) some low (within_running (l ∷ ls) (omega arith) h)

-- the larger of two degrees is at least the first, and where it is above it, it is at most the budget
record GrowsWithin (x budget y : ℕ) : Type 0 where
  pub low : x ≤ y
  pub high : y ≤ max x budget

module _ {F : Type 0} (r : Ring F) (f : Cell → ℕ) (g : ExtCell → ℕ) (N : HasOneDegree g) (s : Shape) (t budget most : ℕ)
    (keeps : (l : LookupData F) → IsLookup s l → lookup_degree r t l ≤ budget → degree f g (fraction_tree r 0 l) ≤ most) (ts : List (Tree F)) (ls : List (LookupData F)) (own : All (IsLookup s) ls) where
  abbrev largest : List (LookupData F) → ℕ
  largest ks = greatest 0 (map (degree f g) (ts ++ lookup_trees r ks))

  table_within : (b : ℕ) (ks : List (LookupData F)) → AllAtMost b (map (degree f g) ts) → AllAtMost b (map (degree f g) (lookup_trees r ks)) → largest ks ≤ b
  table_within b ks h k =
      let ds = map (degree f g) ts in
      let es = map (degree f g) (lookup_trees r ks) in
      greatest_below 0 (map (degree f g) (ts ++ lookup_trees r ks)) b (omega arith)
      (subst (AllAtMost b) (sym (map-append (degree f g) ts (lookup_trees r ks))) (All-append (λ m. m ≤ b) ds es h k))

  within_table : (b : ℕ) (ks : List (LookupData F)) → largest ks ≤ b → AllAtMost b (map (degree f g) ts ++ map (degree f g) (lookup_trees r ks))
  within_table b ks h =
      subst (AllAtMost b) (map-append (degree f g) ts (lookup_trees r ks)) (all_below_greatest 0 (map (degree f g) (ts ++ lookup_trees r ks)) b h)

  -- packing leaves the largest degree, or lets it grow up to what a lookup that keeps to the budget has
  grows : GrowsWithin (largest ls) most (largest (packed r t budget ls))
  grows =
      let ds = map (degree f g) ts in
      let es = λ (ks : List (LookupData F)). map (degree f g) (lookup_trees r ks) in
      let ps = packed r t budget ls in
      let after = within_table (largest ps) ps (omega arith) in
      let b = max (largest ls) most in
      let before = within_table b ls (omega arith) in
      record {
        low = table_within (largest ps) ls (within_left (largest ps) ds (es ps) after) (unpacked_within r f g N (largest ps) s t budget ls own (within_right (largest ps) ds (es ps) after));
        high = table_within b ps (within_left b ds (es ls) before)
            (packed_within r f g N b s t budget (λ l h q. let k = keeps l h q in omega (arith, k)) ls own (within_right b ds (es ls) before));
      }

-- degrees as multiples of the height
multiple_grows : {F : Type 0} (r : Ring F) (s : Shape) (t budget : ℕ) (ts : List (Tree F)) (ls : List (LookupData F)) → All (IsLookup s) ls
    → GrowsWithin (largest_multiple t (table_trees r ts ls)) budget (largest_multiple t (table_trees r ts (packed r t budget ls)))
multiple_grows {F = F} r s t budget ts ls own =
    let N : HasOneDegree ext_multiple = record { challenge = λ i j. refl; column = λ next other i j. refl } in
    grows r (cell_multiple t) ext_multiple N s t budget budget
    (λ l h q. let m = first_below_greatest (max 0 (multiple t (fraction_tree r 0 l))) (map (multiple t) (running_trees r 1)) budget q in omega (arith, m)) ts ls own

-- degrees of polynomials
cell_grows : (s : Shape) (n : ℕ) (periods : List ℕ) (c : Cell) → Declares s c × IsSendable c → cell_degree n periods c ≤ cell_multiple 0 c * (n - 1) + 0
cell_grows s n periods (Main next column) h = omega arith
cell_grows s n periods (Preprocessed next column) h = omega arith
cell_grows s n periods (Periodic i) h = absurd h.1
cell_grows s n periods (Public i) h = omega arith
cell_grows s n periods FirstRow h = absurd h.1
cell_grows s n periods LastRow h = absurd h.1
cell_grows s n periods Transition h = absurd h.1

nothing_more : {F : Type 0} (tree : Tree F) → full_degree (λ _. 0) (λ _. 0) tree ≡ 0
nothing_more (constant x) = refl
nothing_more (cell c) = refl
nothing_more (ext_cell c) = refl
nothing_more (sum a b) = let p = nothing_more a in let q = nothing_more b in omega (arith, p, q)
nothing_more (difference a b) = let p = nothing_more a in let q = nothing_more b in omega (arith, p, q)
nothing_more (product a b) = let p = nothing_more a in let q = nothing_more b in omega (arith, p, q)

polynomial_grows : {F : Type 0} (r : Ring F) (s : Shape) (n : ℕ) (periods : List ℕ) (budget : ℕ) (ts : List (Tree F)) (ls : List (LookupData F)) → All (IsLookup s) ls
    → GrowsWithin (largest_degree n periods (table_trees r ts ls)) (budget * (n - 1)) (largest_degree n periods (table_trees r ts (packed r 0 budget ls)))
polynomial_grows {F = F} r s n periods budget ts ls own =
    let N : HasOneDegree (ext_degree n) = record { challenge = λ i j. refl; column = λ next other i j. refl } in
    grows r (cell_degree n periods) (ext_degree n) N s 0 budget (budget * (n - 1))
    (λ l h q.
    let tree = fraction_tree r 0 l in
    let m = first_below_greatest (max 0 (multiple 0 tree)) (map (multiple 0) (running_trees r 1)) budget q in
    let reads = fraction_reads r s (λ c. cell_degree n periods c ≤ cell_multiple 0 c * (n - 1) + 0) (λ c. ext_degree n c ≤ ext_multiple c * (n - 1)) (cell_grows s n periods) 0 l
    (ext_bound n (Permutation false 1)) (ext_bound n (Challenge 0)) (ext_bound n (Challenge 1)) h in
    let bound = degree_bound (cell_degree n periods) (cell_multiple 0) (λ _. 0) (ext_degree n) ext_multiple (n - 1) tree reads in
    let none = nothing_more tree in
    let scaled : multiple 0 tree * (n - 1) ≤ budget * (n - 1) = mul-le-mul_right (n - 1) (omega (arith, m)) in
    omega (arith, bound, none, scaled)) ts ls own

-- rounded up to multiples of the height
rounded_grows : (n budget x y : ℕ) → 0 < n → GrowsWithin x (budget * (n - 1)) y → GrowsWithin (div_ceil x n) budget (div_ceil y n)
rounded_grows n budget x y pos h =
    let a = div_ceil x n in
    let c = div_ceil y n in
    let under = div_ceil_times x n pos in
    let over = div_ceil_times y n pos in
    let m = max a budget in
    let first : a * n ≤ m * n = mul-le-mul_right n (omega arith) in
    let second : budget * n ≤ m * n = mul-le-mul_right n (omega arith) in
    let less : budget * (n - 1) ≤ budget * n = mul-le-mul_left budget (omega arith) in
    record {
      low = div_ceil_least x n c pos (omega (arith, h.low, over.0));
      high = div_ceil_least y n m pos (omega (arith, h.high, under.0, first, second, less));
    }

degree_grows : {F : Type 0} (r : Ring F) (s : Shape) (n : ℕ) (periods : List ℕ) (budget : ℕ) (ts : List (Tree F)) (ls : List (LookupData F)) → 0 < n → All (IsLookup s) ls
    → GrowsWithin (constraint_degree n periods (table_trees r ts ls)) budget (constraint_degree n periods (table_trees r ts (packed r 0 budget ls)))
degree_grows r s n [] budget ts ls pos own = multiple_grows r s 0 budget ts ls own
degree_grows r s n (p ∷ ps) budget ts ls pos own =
    rounded_grows n budget (largest_degree n (p ∷ ps) (table_trees r ts ls)) (largest_degree n (p ∷ ps) (table_trees r ts (packed r 0 budget ls))) pos
    (polynomial_grows r s n (p ∷ ps) budget ts ls own)

domain_grows : {F : Type 0} (r : Ring F) (s : Shape) (t n : ℕ) (periods : List ℕ) (budget : ℕ) (ts : List (Tree F)) (ls : List (LookupData F)) → 0 < n → All (IsLookup s) ls
    → GrowsWithin (domain_degree t n periods (table_trees r ts ls)) budget (domain_degree t n periods (table_trees r ts (packed r t budget ls)))
domain_grows r s zero n periods budget ts ls pos own = degree_grows r s n periods budget ts ls pos own
domain_grows r s (suc t) n periods budget ts ls pos own = multiple_grows r s (suc t) budget ts ls own

-- and a degree that grows within the free budget needs no more chunks
chunks_kept : (masks hint x budget y : ℕ) → masks ≤ 1 → GrowsWithin x budget y → budget ≤ free_budget masks (log_chunks masks (max x hint))
    → log_chunks masks (max y hint) ≡ log_chunks masks (max x hint)
chunks_kept masks hint x budget y z h free =
    let a = max (max x hint + masks) 2 - 1 in
    let b = max (max y hint + masks) 2 - 1 in
    let enough = log_ceil_enough a in
    let more = log_ceil_enough b in
    let up = log_ceil_least b (log_ceil a) (omega (arith, h.high, enough, free, z)) in
    let down = log_ceil_least a (log_ceil b) (omega (arith, h.low, more)) in
    omega (arith, up, down)

-- Packing lookups keeps a table's chunk count.
pub packing_keeps : {F : Type 0} (r : Ring F) (d : Declaration F) (ts : List (Tree F)) (masks t n budget : ℕ) (ls : List (LookupData F)) → masks ≤ 1 → 0 < n → AreLookupsOf d ls
    → budget ≤ free_budget masks (table_log_chunks r d ts masks t n ls) → table_log_chunks r d ts masks t n (packed r t budget ls) ≡ table_log_chunks r d ts masks t n ls
packing_keeps r d ts masks t n budget ls z pos own free =
    chunks_kept masks (hint_of d.degree_hint) (domain_degree t n (periods_of d) (table_trees r ts ls)) budget (domain_degree t n (periods_of d) (table_trees r ts (packed r t budget ls))) z
    (domain_grows r (declared_shape d) t n (periods_of d) budget ts ls pos own) free
