-- The degrees of constraint trees, by Plonky3's p3-air (symbolic expressions): as multiples of the trace's height,
-- and as degrees of polynomials, which take the selectors and periodic columns exactly.
use Rattle.std.specs.Prelude.{ℕ, ◌+◌, ◌-◌, ◌*◌, ◌/◌, ◌^◌, ◌<◌, min, max, List, [], ◌∷◌, length, slice_index}
use Rattle.air_core.specs.declared.cells.Cell.{Cell}
use Rattle.air_core.specs.declared.cells.Cell.TheVariants.{Main, Preprocessed, Periodic, Public, FirstRow, LastRow, Transition}
use Rattle.air_core.specs.declared.cells.ExtCell.{ExtCell}
use Rattle.air_core.specs.declared.cells.ExtCell.TheVariants.{Permutation, Challenge, Terminal}
use Rattle.air_core.specs.declared.node.Node.{Node}
use Rattle.air_core.specs.declared.node.Node.TheVariants.{Constant, Base, Extension, Sum, Difference, Product}
use Rattle.air_core.specs.Tree.{Tree, constant, cell, ext_cell, sum, difference, product}

-- the sum, which stops at the greatest usize
abbrev pub capped_sum : ℕ → ℕ → ℕ
capped_sum a b = min (a + b) (2 ^ 64 - 1)

-- the degree of a tree whose cells have these degrees: a sum or a difference takes the larger, a product adds
abbrev pub degree : {F : Type 0} → (Cell → ℕ) → (ExtCell → ℕ) → Tree F → ℕ
degree f g (constant x) = 0
degree f g (cell c) = f c
degree f g (ext_cell c) = g c
degree f g (sum x y) = max (degree f g x) (degree f g y)
degree f g (difference x y) = max (degree f g x) (degree f g y)
degree f g (product x y) = capped_sum (degree f g x) (degree f g y)

-- the same without the stop
abbrev pub full_degree : {F : Type 0} → (Cell → ℕ) → (ExtCell → ℕ) → Tree F → ℕ
full_degree f g (constant x) = 0
full_degree f g (cell c) = f c
full_degree f g (ext_cell c) = g c
full_degree f g (sum x y) = max (full_degree f g x) (full_degree f g y)
full_degree f g (difference x y) = max (full_degree f g x) (full_degree f g y)
full_degree f g (product x y) = full_degree f g x + full_degree f g y

-- the degree of a node whose operands have these degrees
abbrev pub node_degree : {F : Type 0} → (Cell → ℕ) → (ExtCell → ℕ) → List ℕ → Node F → ℕ
node_degree f g ds (Constant x) = 0
node_degree f g ds (Base c) = f c
node_degree f g ds (Extension c) = g c
node_degree f g ds (Sum i j) = max (slice_index ds i) (slice_index ds j)
node_degree f g ds (Difference i j) = max (slice_index ds i) (slice_index ds j)
node_degree f g ds (Product i j) = capped_sum (slice_index ds i) (slice_index ds j)

-- a cell's degree as a multiple of the height, where the transition selector has degree t
abbrev pub cell_multiple : ℕ → Cell → ℕ
cell_multiple t (Main next column) = 1
cell_multiple t (Preprocessed next column) = 1
cell_multiple t (Periodic n) = 1
cell_multiple t (Public n) = 0
cell_multiple t FirstRow = 1
cell_multiple t LastRow = 1
cell_multiple t Transition = t

abbrev pub ext_multiple : ExtCell → ℕ
ext_multiple (Permutation next column) = 1
ext_multiple (Challenge n) = 0
ext_multiple Terminal = 0

-- the degree of a tree as a multiple of the height, where the transition selector has degree t
abbrev pub multiple : {F : Type 0} → ℕ → Tree F → ℕ
multiple t tree = degree (cell_multiple t) ext_multiple tree

-- the degree of the polynomial of a column that repeats q values over n rows: it is one in X^(n/q)
abbrev pub periodic_degree : ℕ → ℕ → ℕ
periodic_degree n q = (q - 1) * (n / q)

-- the degree of a cell's polynomial over n rows, where periodic column i repeats as many values as periods names
abbrev pub cell_degree : ℕ → List ℕ → Cell → ℕ
cell_degree n periods (Main next column) = n - 1
cell_degree n periods (Preprocessed next column) = n - 1
cell_degree n periods (Periodic i) = periodic_degree n (slice_index periods i)
cell_degree n periods (Public i) = 0
cell_degree n periods FirstRow = n - 1
cell_degree n periods LastRow = n - 1
cell_degree n periods Transition = 1

abbrev pub ext_degree : ℕ → ExtCell → ℕ
ext_degree n (Permutation next column) = n - 1
ext_degree n (Challenge i) = 0
ext_degree n Terminal = 0

-- the degree of a tree's polynomial over n rows
abbrev pub polynomial_degree : {F : Type 0} → ℕ → List ℕ → Tree F → ℕ
polynomial_degree n periods tree = degree (cell_degree n periods) (ext_degree n) tree

-- the same without the stop
abbrev pub full_polynomial_degree : {F : Type 0} → ℕ → List ℕ → Tree F → ℕ
full_polynomial_degree n periods tree = full_degree (cell_degree n periods) (ext_degree n) tree

-- the cell is no periodic column past these periods
abbrev pub HasPeriod : List ℕ → Cell → Type 0
HasPeriod periods (Main next column) = Unit {0}
HasPeriod periods (Preprocessed next column) = Unit {0}
HasPeriod periods (Periodic i) = i < length periods
HasPeriod periods (Public i) = Unit {0}
HasPeriod periods FirstRow = Unit {0}
HasPeriod periods LastRow = Unit {0}
HasPeriod periods Transition = Unit {0}

-- the greatest of some numbers, at least the first one
abbrev pub greatest : ℕ → List ℕ → ℕ
greatest n [] = n
greatest n (k ∷ ks) = greatest (max n k) ks
