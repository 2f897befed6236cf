-- The degree of a table's constraints, and into how many chunks its quotient is split. After Plonky3's p3-batch-stark
-- (get_max_constraint_degree, get_log_num_quotient_chunks).
use Rattle.std.specs.Prelude.{ℕ, zero, suc, ◌+◌, ◌-◌, ◌^◌, nat_lt, cond, max, List, [], ◌∷◌, length, map, Option, None, Some}
use Rattle.std.specs.Int.{div_ceil}
use Rattle.p3_field.specs.Ring.{Ring}
use Rattle.air_core.specs.Degree.{multiple, polynomial_degree}
use Rattle.air_core.specs.Shape.{Declaration}
use Rattle.air_core.specs.Tree.{Tree}
use Rattle.p3_lookup.specs.Lookup.{LookupData}
use Rattle.air_core.specs.Degree.{greatest}
use Rattle.batch_constraints.specs.BatchTrees.{table_trees}

-- the largest multiple of the height, where the transition selector has degree t; zero without constraints
abbrev pub largest_multiple : {F : Type 0} → ℕ → List (Tree F) → ℕ
largest_multiple t trees = greatest 0 (map (multiple t) trees)

-- the largest degree of a polynomial over n rows, where the periodic columns have these periods
abbrev pub largest_degree : {F : Type 0} → ℕ → List ℕ → List (Tree F) → ℕ
largest_degree n periods trees = greatest 0 (map (polynomial_degree n periods) trees)

-- The degree of constraints over n rows, as a multiple of n: the largest multiple where no column is periodic, else the
-- largest degree of a polynomial, over n and rounded up.
abbrev pub constraint_degree : {F : Type 0} → ℕ → List ℕ → List (Tree F) → ℕ
constraint_degree n [] trees = largest_multiple 0 trees
constraint_degree n (p ∷ ps) trees = div_ceil (largest_degree n (p ∷ ps) trees) n

-- the same over a domain of n points whose transition selector has degree t
abbrev pub domain_degree : {F : Type 0} → ℕ → ℕ → List ℕ → List (Tree F) → ℕ
domain_degree zero n periods trees = constraint_degree n periods trees
domain_degree (suc t) n periods trees = largest_multiple (suc t) trees

-- how many values each periodic column repeats
abbrev pub periods_of : {F : Type 0} → Declaration F → List ℕ
periods_of d = map length d.periodic

-- the degree that an AIR hints at, zero where it doesn't
abbrev pub hint_of : Option ℕ → ℕ
hint_of None = 0
hint_of (Some d) = d

-- the degree that counts: that of the constraints, or the hint where it is larger
abbrev pub with_hint : {F : Type 0} → Declaration F → ℕ → ℕ
with_hint d degree = max degree (hint_of d.degree_hint)

-- how many of 2^0, .., 2^(k - 1) are below n
abbrev pub powers_below : ℕ → ℕ → ℕ
powers_below n zero = 0
powers_below n (suc k) = powers_below n k + cond (nat_lt (2 ^ k) n) 1 0

-- the least k with n <= 2^k: how many powers of two are below n
unfoldable pub log_ceil : ℕ → ℕ
log_ceil n = powers_below n n

-- the logarithm of the number of chunks of the quotient of constraints of this degree, masked or not
abbrev pub log_chunks : ℕ → ℕ → ℕ
log_chunks masks degree = log_ceil (max (degree + masks) 2 - 1)

-- the logarithm of the number of chunks of a table with these trees and lookups, over a domain of n points whose transition selector
-- has degree t
abbrev pub table_log_chunks : {F : Type 0} → Ring F → Declaration F → List (Tree F) → ℕ → ℕ → ℕ → List (LookupData F) → ℕ
table_log_chunks f d trees masks t n lookups = log_chunks masks (with_hint d (domain_degree t n (periods_of d) (table_trees f trees lookups)))

-- The degree that a packed lookup's constraints may have where the quotient has 2^k chunks, masked or not: a larger one would need more
-- chunks. After the budget of Plonky3's p3-lookup (pack_same_bus_with_degree).
abbrev pub free_budget : ℕ → ℕ → ℕ
free_budget masks k = 2 ^ k + 1 - masks
