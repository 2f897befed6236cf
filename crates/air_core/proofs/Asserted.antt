-- What is read of asserted trees.
use Rattle.std.proofs.Common.{◌≡◌, List, [], ◌∷◌, map, refl, ap}
use Rattle.air_core.specs.declared.node.Node.{Node}
use Rattle.air_core.specs.declared.recorded.Assertion.{Assertion}
use Rattle.air_core.specs.Tree.{Tree, Asserted}
use Rattle.air_core.specs.Recording.{trees_at, asserted_at}
use Rattle.air_core.specs.Symbolic.{tree_at}

-- what is read of the trees at the places is what is read of the asserted trees
pub read_of_asserted : {F E : Type 0} (f : Tree F → E) (ns : List (Node F)) (xs : List Assertion) → map f (trees_at ns xs) ≡ map (λ a. f a.tree) (asserted_at ns xs)
read_of_asserted f ns [] = refl
read_of_asserted {E = E} f ns (x ∷ xs) = ap (λ (ys : List E). f (tree_at ns x.place) ∷ ys) (read_of_asserted f ns xs)
