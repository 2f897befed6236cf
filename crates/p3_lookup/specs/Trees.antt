-- The constraints of a table's lookups, in the order in which the gadget asserts them. After Plonky3's p3-lookup
-- (LogUpGadget); the order is this project's own.
use Rattle.std.specs.Prelude.{ℕ, zero, suc, ◌+◌, ◌*◌, true, false, Bool, List, [], ◌∷◌, ◌++◌, length, map}
use Rattle.p3_field.specs.Ring.{Ring}
use Rattle.p3_field.specs.Poly.{eval_poly}
use Rattle.air_core.specs.declared.cells.Cell.TheVariants.{FirstRow, LastRow, Transition}
use Rattle.air_core.specs.declared.cells.ExtCell.TheVariants.{Permutation, Challenge, Terminal}
use Rattle.air_core.specs.Tree.{Tree, constant, cell, ext_cell, sum, difference, product}
use Rattle.p3_lookup.specs.Lookup.{LookupData, Sent, sent}
use Rattle.p3_lookup.specs.Term.{Term, common, numerator}

-- trees as a ring's data: a function over any `Ring` yields its own tree here
abbrev pub trees : {F : Type 0} → Ring F → Ring (Tree F)
trees f = record { zero = constant f.zero; one = constant f.one; add = sum; mul = product; neg = λ t. difference (constant f.zero) t }

-- a permutation column in this row, or in the next: column 0 is the running sum, column n + 1 the fraction of lookup n
abbrev pub column_tree : {F : Type 0} → Bool → ℕ → Tree F
column_tree next n = ext_cell (Permutation next n)

-- the base of lookup n, which names its bus, and the challenge beta
abbrev pub base_tree : {F : Type 0} → ℕ → Tree F
base_tree n = ext_cell (Challenge (2 * n))

abbrev pub beta_tree : {F : Type 0} → ℕ → Tree F
beta_tree n = ext_cell (Challenge (2 * n + 1))

-- the term of a tuple, where these trees are the base and beta
abbrev pub term_tree : {F : Type 0} → Ring F → Tree F → Tree F → Sent (Tree F) → Term (Tree F)
term_tree f base beta s = record { count = s.count; denominator = difference base (eval_poly (trees f) s.tuple beta) }

-- the terms of lookup n
abbrev pub term_trees : {F : Type 0} → Ring F → ℕ → LookupData F → List (Term (Tree F))
term_trees f n l = map (term_tree f (base_tree n) (beta_tree n)) (sent l)

-- the fraction of lookup n is the sum of its counts over their denominators
abbrev pub fraction_tree : {F : Type 0} → Ring F → ℕ → LookupData F → Tree F
fraction_tree f n l =
    difference (product (column_tree false (n + 1)) (common (trees f) (term_trees f n l))) (numerator (trees f) (term_trees f n l))

-- the lookups being those from n on
abbrev pub fraction_trees : {F : Type 0} → Ring F → ℕ → List (LookupData F) → List (Tree F)
fraction_trees f n [] = []
fraction_trees f n (l ∷ ls) = fraction_tree f n l ∷ fraction_trees f (suc n) ls

-- the sum of the first n fractions
abbrev pub sum_tree : {F : Type 0} → Ring F → ℕ → Tree F
sum_tree f zero = constant f.zero
sum_tree f (suc n) = sum (sum_tree f n) (column_tree false (suc n))

-- the running sum of the fractions begins at zero,
abbrev pub first_tree : {F : Type 0} → Tree F
first_tree = product (cell FirstRow) (column_tree false 0)

-- grows by each row's n fractions,
abbrev pub transition_tree : {F : Type 0} → Ring F → ℕ → Tree F
transition_tree f n = product (cell Transition) (difference (difference (column_tree true 0) (column_tree false 0)) (sum_tree f n))

-- and ends at the terminal
abbrev pub last_tree : {F : Type 0} → Ring F → ℕ → Tree F
last_tree f n = product (cell LastRow) (difference (difference (ext_cell Terminal) (column_tree false 0)) (sum_tree f n))

abbrev pub running_trees : {F : Type 0} → Ring F → ℕ → List (Tree F)
running_trees f n = first_tree ∷ transition_tree f n ∷ last_tree f n ∷ []

-- the constraints of a table's lookups; there is none without lookups
abbrev pub lookup_trees : {F : Type 0} → Ring F → List (LookupData F) → List (Tree F)
lookup_trees f [] = []
lookup_trees f (l ∷ ls) = fraction_trees f 0 (l ∷ ls) ++ running_trees f (length (l ∷ ls))
