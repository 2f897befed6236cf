-- Which constraints have polynomials that fit a table's quotient, and how many transition selectors are multiplied in a constraint.
-- After Plonky3's p3-air (symbolic expressions: the transition selector counts nothing in a degree as a multiple of the height).
use Rattle.std.specs.Prelude.{ℕ, ◌+◌, ◌*◌, ◌<◌, max, List, All}
use Rattle.air_core.specs.declared.cells.Cell.{Cell}
use Rattle.air_core.specs.declared.cells.Cell.TheVariants.{Main, Preprocessed, Periodic, Public, FirstRow, LastRow, Transition}
use Rattle.air_core.specs.Degree.{full_degree, polynomial_degree}
use Rattle.air_core.specs.Tree.{Tree}

-- one for the transition selector, nothing for the other cells
abbrev pub cell_transitions : Cell → ℕ
cell_transitions (Main next column) = 0
cell_transitions (Preprocessed next column) = 0
cell_transitions (Periodic i) = 0
cell_transitions (Public i) = 0
cell_transitions FirstRow = 0
cell_transitions LastRow = 0
cell_transitions Transition = 1

-- how many transition selectors are multiplied with each other in a tree, at most: a sum or a difference takes the larger number,
-- a product adds
abbrev pub transition_factors : {F : Type 0} → Tree F → ℕ
transition_factors tree = full_degree cell_transitions (λ _. 0) tree

-- The tree's polynomial fits n rows and c chunks: divided by the polynomial that is zero on the rows, it leaves one that c
-- polynomials of degree below n make up.
abbrev pub FitsChunks : {F : Type 0} → ℕ → List ℕ → ℕ → Tree F → Type 0
FitsChunks n periods c tree = polynomial_degree n periods tree < n * (c + 1)

-- Each of these trees with fewer transition factors than the larger of 2 and this degree fits so many chunks, over any number of rows.
abbrev pub FewTransitionsFit : {F : Type 0} → List ℕ → ℕ → ℕ → List (Tree F) → Type 0
FewTransitionsFit periods d c trees = (n : ℕ) → 0 < n → All (λ tree. transition_factors tree < max d 2 → FitsChunks n periods c tree) trees
