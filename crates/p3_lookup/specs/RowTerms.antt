-- What private functions of the generation of permutation columns hand on.
use Rattle.std.specs.Prelude.{◌≡◌, ℕ, zero, suc, ◌+◌, List, [], ◌∷◌, ◌++◌, length, map, take, drop, flat_map, All, Result, Ok, Err}
use Rattle.std.specs.Prelude.{slice_index_or as get_or}
use Rattle.p3_field.specs.Ring.{Ring}
use Rattle.p3_field.specs.Poly.{total}
use Rattle.p3_matrix.specs.Laws.Grids.{IsGrid}
use Rattle.p3_lookup.specs.declared.terminal.GenerateError.{GenerateError}
use Rattle.p3_lookup.specs.declared.terminal.GenerateError.TheVariants.{DenominatorZero, OutOfMemory}
use Rattle.p3_lookup.specs.Term.{Term, sum_of, HasInverses}
use Rattle.p3_lookup.specs.Lookup.{LookupData}
use Rattle.p3_lookup.specs.Honest.{Argument, row_terms}
use Rattle.p3_lookup.specs.Generated.{IsFirstZero, IsFirstZeroIn}

-- The answer of a call that puts the terms of a lookup after others: they are there, and no denominator is zero, or the
-- first that is, with this row and this lookup.
abbrev pub AreTermsAdded : {E : Type 0} → Ring E → List (Term E) → ℕ → ℕ → List (Term E) → List (Term E) → Result (Unit {0}) GenerateError → Type 0
AreTermsAdded r ts row lookup old new (Ok x) = (new ≡ old ++ ts) × HasInverses r ts
AreTermsAdded r ts row lookup old new (Err (DenominatorZero i n j)) = (i ≡ row) × (n ≡ lookup) × IsFirstZero r ts j
AreTermsAdded r ts row lookup old new (Err OutOfMemory) = Unit {0}

-- the terms of a row, lookup after lookup
abbrev pub flat_terms : {E : Type 0} → List (List (Term E)) → List (Term E)
flat_terms tss = flat_map (λ ts. ts) tss

-- the same answer for all lookups of a row
abbrev pub AreRowTermsAdded : {E : Type 0} → Ring E → List (List (Term E)) → ℕ → List (Term E) → List (Term E) → Result (Unit {0}) GenerateError → Type 0
AreRowTermsAdded r tss row old new (Ok x) = (new ≡ old ++ flat_terms tss) × All (HasInverses r) tss
AreRowTermsAdded r tss row old new (Err (DenominatorZero i n j)) = (i ≡ row) × IsFirstZeroIn r tss n j
AreRowTermsAdded r tss row old new (Err OutOfMemory) = Unit {0}

-- the terms of the first n rows, row after row
abbrev pub table_terms : {F E : Type 0} → Argument F E → ℕ → List (Term E)
table_terms p zero = []
table_terms p (suc n) = table_terms p n ++ flat_terms (row_terms p n)

-- how many tuples each lookup has
abbrev pub sizes : {F : Type 0} → List (LookupData F) → List ℕ
sizes ls = map (λ l. length l.tuples) ls

-- how many terms a row has
abbrev pub row_size : List ℕ → ℕ
row_size [] = 0
row_size (n ∷ ns) = n + row_size ns

-- the sums of the first values in groups of these sizes
abbrev pub group_sums : {E : Type 0} → Ring E → List ℕ → List E → List E
group_sums r [] xs = []
group_sums r (n ∷ ns) xs = sum_of r (take n xs) ∷ group_sums r ns (drop n xs)

-- a row stands after the values: the running sum, then these fractions; and the next row's running sum
pub record IsRowAdded {E : Type 0} (r : Ring E) (fractions : List E) (running : E) (old new : List E) (next : E) : Type 0 where
  pub values : new ≡ old ++ running ∷ fractions
  pub next_is : next ≡ r.add running (sum_of r fractions)

-- the cell in row i and a column, where row i has these fractions: the sum of all in the rows before, then the fractions
abbrev pub column_cell : {E : Type 0} → Ring E → (ℕ → List E) → ℕ → ℕ → E
column_cell r fractions i zero = total r i (λ k. sum_of r (fractions k))
column_cell r fractions i (suc n) = get_or (fractions i) n r.zero

-- n rows of w fractions each with the running sum before them, and the sum of all
pub record AreColumns {E : Type 0} (r : Ring E) (fractions : ℕ → List E) (w : ℕ) (values : List E) (n : ℕ) (running : E) : Type 0 where
  pub grid : IsGrid r.zero values n (w + 1) (column_cell r fractions)
  pub sum : running ≡ total r n (λ k. sum_of r (fractions k))
