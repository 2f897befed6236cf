-- The constraints of a chain of compressions (not in Plonky3). The columns are those of `Blake3Air`: the chaining value's bits stand from
-- 512 on, the output's from 8656 on.
use Rattle.std.specs.Prelude.{ℕ, ◌+◌, ◌*◌, ◌<◌, ◌≤◌, IsTrue, List, [], ◌++◌, true, false, None, Some}
use Rattle.p3_field.specs.Ring.{Ring}
use Rattle.p3_field.specs.Poly.{tabulate}
use Rattle.air_core.specs.declared.cells.Cell.{Cell}
use Rattle.air_core.specs.declared.cells.Cell.TheVariants.{Main, Public, FirstRow, LastRow, Transition}
use Rattle.air_core.specs.Joined.{joined}
use Rattle.air_core.specs.Shape.{Declaration, Shape}
use Rattle.air_core.specs.Tree.{Tree, cell, difference, product}
use Rattle.blake3_prime.specs.Trees.{from_column, packed_limbs, blake3_trees}

-- a value is that of a cell, where the selector isn't zero
abbrev pub selected : {F : Type 0} → Cell → Tree F → Cell → Tree F
selected selector x y = product (cell selector) (difference x (cell y))

-- bit i of the next row's chaining value is bit i of the output's first 8 words
abbrev pub link_tree : {F : Type 0} → ℕ → Tree F
link_tree i = selected Transition (cell (Main true (512 + i))) (Main false (8656 + i))

unfoldable pub link_trees : {F : Type 0} → List (Tree F)
link_trees = tabulate 256 link_tree

-- limb k of the word whose bits stand from a column on is a public value
abbrev pub limb_tree : {F : Type 0} → Ring F → Cell → ℕ → ℕ → ℕ → Tree F
limb_tree r selector column public k = selected selector (packed_limbs r (from_column column) k) (Public (public + k))

-- both its limbs
unfoldable pub public_word_trees : {F : Type 0} → Ring F → Cell → ℕ → ℕ → List (Tree F)
public_word_trees r selector column public = tabulate 2 (limb_tree r selector column public)

-- those of 8 words
unfoldable pub edge_trees : {F : Type 0} → Ring F → Cell → ℕ → ℕ → List (Tree F)
edge_trees r selector column public = joined 8 (λ w. public_word_trees r selector (column + 32 * w) (public + 2 * w))

-- the constraints between rows, and with the public values: those of the first chaining value, then those of the last output
unfoldable pub linking_trees : {F : Type 0} → Ring F → List (Tree F)
linking_trees r = link_trees ++ edge_trees r FirstRow 512 0 ++ edge_trees r LastRow 8656 16

-- the constraints, in order
unfoldable pub chain_trees : {F : Type 0} → Ring F → List (Tree F)
chain_trees r = blake3_trees r ++ linking_trees r

-- the columns whose next row is read: the chaining value's bits
abbrev pub chain_next : List ℕ
chain_next = tabulate 256 (λ i. 512 + i)

abbrev pub chain_declaration : {F : Type 0} → Declaration F
chain_declaration = record {
  width = 9168;
  preprocessed = None;
  main_next = chain_next;
  preprocessed_next = [];
  public_values = 32;
  periodic = [];
  constraints = Some 9920;
  degree_hint = Some 3;
  boolean_trace = false;
}

-- what a builder has to declare for these constraints
pub record DeclaresChain (s : Shape) : Type 0 where
  pub main : 9168 ≤ s.main
  pub next : (i : ℕ) → i < 256 → IsTrue (s.main_next (512 + i))
  pub publics : 32 ≤ s.public
