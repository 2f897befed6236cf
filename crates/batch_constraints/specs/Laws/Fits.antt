-- Trees whose polynomials fit the chunks of a table's quotient: without periodic columns those with few transition factors.
use Rattle.std.proofs.Common.{◌≡◌, ℕ, zero, suc, ◌+◌, ◌-◌, ◌*◌, ◌/◌, ◌^◌, ◌<◌, ◌≤◌, inl, inr, List, [], length, map, get_or, max, min, sym, ◌∙◌, ap, subst, arith}
use Rattle.std.specs.Prelude.{slice_index}
use Rattle.std.proofs.Math.Nat.{mul-le-mul_right}
use Rattle.std.proofs.lemmas.Bool.{cases_lt}
use Rattle.std.proofs.lemmas.List.{get_or_past, get_or_default}
use Rattle.air_core.specs.declared.cells.Cell.{Cell}
use Rattle.air_core.specs.declared.cells.Cell.TheVariants.{Main, Preprocessed, Periodic, Public, FirstRow, LastRow, Transition}
use Rattle.air_core.specs.declared.cells.ExtCell.{ExtCell}
use Rattle.air_core.specs.declared.cells.ExtCell.TheVariants.{Permutation, Challenge, Terminal}
use Rattle.air_core.specs.Degree.{degree, full_degree, cell_degree, ext_degree, cell_multiple, ext_multiple, multiple, periodic_degree, polynomial_degree}
use Rattle.air_core.specs.Laws.Maps.{reads_all}
use Rattle.air_core.specs.Shape.{Declaration, ReadsIn}
use Rattle.air_core.specs.Tree.{Tree, constant, cell, ext_cell, sum, difference, product}
use Rattle.batch_constraints.specs.Fitting.{cell_transitions, transition_factors, FitsChunks, FewTransitionsFit}
use Rattle.batch_constraints.specs.Sizing.{largest_multiple, constraint_degree, periods_of, with_hint, log_ceil, log_chunks}
use Rattle.air_core.specs.Laws.Greatest.{all_below_greatest}
use Rattle.batch_constraints.specs.Laws.Logarithms.{log_ceil_enough}
use Rattle.batch_constraints.specs.Laws.Periods.{at_item}

larger_bound : (m a b k l t u : ℕ) → a ≤ k * m + t → b ≤ l * m + u → max a b ≤ max k l * m + max t u
larger_bound m a b k l t u h i =
    let p : k * m ≤ max k l * m = mul-le-mul_right m (omega arith) in
    let q : l * m ≤ max k l * m = mul-le-mul_right m (omega arith) in
    omega (arith, h, i, p, q)

stopped_bound : (M m a b k l t u : ℕ) → a ≤ k * m + t → b ≤ l * m + u → min (a + b) M ≤ min (k + l) M * m + (t + u)
stopped_bound M zero a b k l t u h i =
    let x : k * zero ≡ zero = omega arith in
    let y : l * zero ≡ zero = omega arith in
    omega (arith, h, i, x, y)
stopped_bound M (suc m) a b k l t u h i = elim (cases_lt M (k + l)) [
  | inl s ↦
      let e : min (k + l) M ≡ M = omega (arith, s) in
      let x : min (k + l) M * suc m ≡ M * suc m = ap (λ z. z * suc m) e in
      let y : M * suc m ≡ M + M * m = omega arith in
      omega (arith, x, y)
  | inr s ↦
      let e : min (k + l) M ≡ k + l = omega (arith, s) in
      let x : min (k + l) M * suc m ≡ (k + l) * suc m = ap (λ z. z * suc m) e in
      let y : (k + l) * suc m ≡ k * suc m + l * suc m = omega arith in
      omega (arith, x, y, h, i)
]

-- where each cell's degree is at most m times another one, and a number more, so is a tree's: the numbers add up as full degrees
pub degree_bound : {F : Type 0} (f k more : Cell → ℕ) (g l : ExtCell → ℕ) (m : ℕ) (tree : Tree F)
    → ReadsIn (λ c. f c ≤ k c * m + more c) (λ c. g c ≤ l c * m) tree → degree f g tree ≤ degree k l tree * m + full_degree more (λ _. 0) tree
degree_bound f k more g l m (constant x) h = omega arith
degree_bound f k more g l m (cell c) h = h
degree_bound f k more g l m (ext_cell c) h = omega (arith, h)
degree_bound f k more g l m (sum a b) h =
    larger_bound m (degree f g a) (degree f g b) (degree k l a) (degree k l b) (full_degree more (λ _. 0) a) (full_degree more (λ _. 0) b)
    (degree_bound f k more g l m a h.0) (degree_bound f k more g l m b h.1)
degree_bound f k more g l m (difference a b) h =
    larger_bound m (degree f g a) (degree f g b) (degree k l a) (degree k l b) (full_degree more (λ _. 0) a) (full_degree more (λ _. 0) b)
    (degree_bound f k more g l m a h.0) (degree_bound f k more g l m b h.1)
degree_bound f k more g l m (product a b) h =
    stopped_bound (2 ^ 64 - 1) m (degree f g a) (degree f g b) (degree k l a) (degree k l b) (full_degree more (λ _. 0) a) (full_degree more (λ _. 0) b)
    (degree_bound f k more g l m a h.0) (degree_bound f k more g l m b h.1)

-- a column without a period counts nothing
no_period : (n q : ℕ) → q ≡ 0 → periodic_degree n q ≡ 0
no_period n q h =
    let e : q - 1 ≡ 0 = omega (arith, h) in
    let none : 0 * (n / q) ≡ 0 = omega arith in
    ap (λ k. k * (n / q)) e ∙ none

-- without periodic columns a cell's polynomial has at most its multiple of n - 1, and one more for the transition selector
cell_bound : (n : ℕ) (c : Cell) → cell_degree n [] c ≤ cell_multiple 0 c * (n - 1) + cell_transitions c
cell_bound n (Main next column) = omega arith
cell_bound n (Preprocessed next column) = omega arith
cell_bound n (Periodic i) = let e = no_period n (slice_index [] i) (get_or_past [] i 0 (omega arith)) in omega (arith, e)
cell_bound n (Public i) = omega arith
cell_bound n FirstRow = omega arith
cell_bound n LastRow = omega arith
cell_bound n Transition = omega arith

pub ext_bound : (n : ℕ) (c : ExtCell) → ext_degree n c ≤ ext_multiple c * (n - 1)
ext_bound n (Permutation next column) = omega arith
ext_bound n (Challenge i) = omega arith
ext_bound n Terminal = omega arith

-- so has a tree's, and its transition factors more
transitions_bound : {F : Type 0} (n : ℕ) (tree : Tree F) → polynomial_degree n [] tree ≤ multiple 0 tree * (n - 1) + transition_factors tree
transitions_bound n tree =
    degree_bound (cell_degree n []) (cell_multiple 0) cell_transitions (ext_degree n) ext_multiple (n - 1) tree
    (reads_all (λ c. cell_degree n [] c ≤ cell_multiple 0 c * (n - 1) + cell_transitions c) (λ c. ext_degree n c ≤ ext_multiple c * (n - 1)) (cell_bound n) (ext_bound n) tree)

one_less : (m n : ℕ) → 0 < n → m * n ≡ m * (n - 1) + m
one_less m zero h = absurd (omega (arith, h))
one_less m (suc k) h =
    let e : suc k - 1 ≡ k = omega arith in
    let s : m * suc k ≡ m * k + m = omega arith in
    s ∙ ap (λ z. m * z + m) (sym e)

-- A tree with fewer transition factors than the larger of 2 and the degree d fits, where the chunks are at least one less.
pub few_transitions_fit : {F : Type 0} (n d c : ℕ) (tree : Tree F) → 0 < n → multiple 0 tree ≤ d → transition_factors tree < max d 2 → max d 2 - 1 ≤ c → FitsChunks n [] c tree
few_transitions_fit n d c tree pos low few enough =
    let m = max d 2 in
    let bound = transitions_bound n tree in
    let less : multiple 0 tree * (n - 1) ≤ m * (n - 1) = mul-le-mul_right (n - 1) (omega (arith, low)) in
    let chunks : m * n ≤ (c + 1) * n = mul-le-mul_right n (omega (arith, enough)) in
    let turned : (c + 1) * n ≡ n * (c + 1) = omega arith in
    let step : m * n ≡ m * (n - 1) + m = one_less m n pos in
    omega (arith, bound, less, chunks, turned, step, few)

-- The chunks of a table's quotient are at least one less than the larger of 2 and the degree, masked or not.
chunks_reach : (masks degree k : ℕ) → k ≡ log_chunks masks degree → max degree 2 - 1 ≤ 2 ^ k
chunks_reach masks degree k e =
    let reached = log_ceil_enough (max (degree + masks) 2 - 1) in
    let same : 2 ^ k ≡ 2 ^ log_ceil (max (degree + masks) 2 - 1) = ap (λ j. 2 ^ j) e in
    omega (arith, reached, same)

-- so without periodic columns each of a table's trees with few transition factors fits them, over any number of rows
pub table_fits_chunks : {F : Type 0} (d : Declaration F) (trees : List (Tree F)) (rows masks k : ℕ) → d.periodic ≡ []
    → k ≡ log_chunks masks (with_hint d (constraint_degree rows (periods_of d) trees))
    → FewTransitionsFit (periods_of d) (with_hint d (constraint_degree rows (periods_of d) trees)) (2 ^ k) trees
table_fits_chunks {F = F} d trees rows masks k none is n pos i t lt few =
    let empty : periods_of d ≡ [] = ap (λ (columns : List (List F)). map length columns) none in
    let degree = with_hint d (constraint_degree rows (periods_of d) trees) in
    let same : constraint_degree rows (periods_of d) trees ≡ largest_multiple 0 trees = ap (λ ps. constraint_degree rows ps trees) empty in
    let tree = get_or trees i t in
    let own = all_below_greatest 0 (map (multiple 0) trees) (largest_multiple 0 trees) (omega arith) in
    let low : multiple 0 tree ≤ largest_multiple 0 trees = at_item (λ m. m ≤ largest_multiple 0 trees) (multiple 0) trees i tree lt (get_or_default trees i t tree lt) own in
    let within : multiple 0 tree ≤ degree = omega (arith, low, same) in
    subst (λ ps. FitsChunks n ps (2 ^ k) tree) (sym empty) (few_transitions_fit n degree (2 ^ k) tree pos within few (chunks_reach masks degree k is))
