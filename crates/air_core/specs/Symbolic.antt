-- Constraint trees as lists of nodes: the operands of a node stand before it, and a tree's root is the last node.
use Rattle.std.specs.Prelude.{ℕ, ◌-◌, ◌<◌, ◌++◌, suc, List, [], ◌∷◌, length}
use Rattle.std.specs.Prelude.{slice_index_or as get_or}
use Rattle.air_core.specs.declared.cells.Cell.TheVariants.{FirstRow}
use Rattle.air_core.specs.declared.node.Node.{Node}
use Rattle.air_core.specs.declared.node.Node.TheVariants.{Constant, Base, Extension, Sum, Difference, Product}
use Rattle.air_core.specs.Tree.{Tree, constant, cell, ext_cell, sum, difference, product}

-- the tree at this place; the selector that stands for a place past the end is never read
abbrev pub tree_in : {F : Type 0} → List (Tree F) → ℕ → Tree F
tree_in ts i = get_or ts i (cell FirstRow)

-- the tree of a node whose operands are at their places among these trees
abbrev pub node_tree : {F : Type 0} → List (Tree F) → Node F → Tree F
node_tree ts (Constant x) = constant x
node_tree ts (Base c) = cell c
node_tree ts (Extension c) = ext_cell c
node_tree ts (Sum i j) = sum (tree_in ts i) (tree_in ts j)
node_tree ts (Difference i j) = difference (tree_in ts i) (tree_in ts j)
node_tree ts (Product i j) = product (tree_in ts i) (tree_in ts j)

-- these trees, then those of the nodes
unfoldable pub trees_after : {F : Type 0} → List (Tree F) → List (Node F) → List (Tree F)
trees_after ts [] = ts
trees_after ts (n ∷ ns) = trees_after (ts ++ node_tree ts n ∷ []) ns

-- the tree of the node at this place
abbrev pub tree_at : {F : Type 0} → List (Node F) → ℕ → Tree F
tree_at ns i = tree_in (trees_after [] ns) i

-- the tree of the last node
abbrev pub tree_of : {F : Type 0} → List (Node F) → Tree F
tree_of ns = tree_at ns (length ns - 1)

-- the node's operands are below this place
abbrev pub OperandsBelow : {F : Type 0} → ℕ → Node F → Type 0
OperandsBelow k (Constant x) = Unit {0}
OperandsBelow k (Base c) = Unit {0}
OperandsBelow k (Extension c) = Unit {0}
OperandsBelow k (Sum i j) = (i < k) × (j < k)
OperandsBelow k (Difference i j) = (i < k) × (j < k)
OperandsBelow k (Product i j) = (i < k) × (j < k)

-- the operands of each node stand before it, where the first node's place is k
unfoldable pub OrderedFrom : {F : Type 0} → ℕ → List (Node F) → Type 0
OrderedFrom k [] = Unit {0}
OrderedFrom k (n ∷ ns) = OperandsBelow k n × OrderedFrom (suc k) ns

-- the operands of each node stand before it
abbrev pub Ordered : {F : Type 0} → List (Node F) → Type 0
Ordered ns = OrderedFrom 0 ns

-- the expression's root is the last node, and the operands of each node stand before it
pub record IsExpression {F : Type 0} (ns : List (Node F)) : Type 0 where
  pub rooted : 0 < length ns
  pub ordered : Ordered ns
