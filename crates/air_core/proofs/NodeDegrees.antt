-- Degrees of nodes in order.
use Rattle.std.proofs.Common.{◌≡◌, ℕ, ◌+◌, ◌<◌, max, List, [], ◌∷◌, ◌++◌, length, map, take, get_or, refl, sym, ◌∙◌, ap, subst, zero-add, arith}
use Rattle.std.proofs.lemmas.List.{get_or-map, length-map, map-append, take_more}
use Rattle.std.proofs.lemmas.Grind.{common_steps}
use Rattle.air_core.specs.declared.cells.Cell.{Cell}
use Rattle.air_core.specs.declared.cells.Cell.TheVariants.{FirstRow}
use Rattle.air_core.specs.declared.cells.ExtCell.{ExtCell}
use Rattle.air_core.specs.declared.node.Node.{Node}
use Rattle.air_core.specs.declared.node.Node.TheVariants.{Constant, Base, Extension, Sum, Difference, Product}
use Rattle.air_core.specs.Tree.{Tree, cell}
use Rattle.air_core.specs.Degree.{capped_sum, degree, node_degree}
use Rattle.air_core.specs.Symbolic.{tree_in, node_tree, trees_after, tree_at, OperandsBelow, Ordered}
use Rattle.air_core.specs.Laws.Symbolic.{length-trees_after, trees_after-append, operands-below}

module _ {F : Type 0} (f : Cell → ℕ) (g : ExtCell → ℕ) where
  -- the degree of an operand
  operand : (ts : List (Tree F)) (i : ℕ) → i < length (map (degree f g) ts) → get_or (map (degree f g) ts) i 0 ≡ degree f g (tree_in ts i)
  operand ts i h = get_or-map (degree f g) ts i (cell FirstRow) 0 (omega (arith, h, length-map ts (degree f g)))

  -- a node's degree is that of its tree
  node_degree-tree : (ts : List (Tree F)) (n : Node F) → OperandsBelow (length (map (degree f g) ts)) n → node_degree f g (map (degree f g) ts) n ≡ degree f g (node_tree ts n)
  node_degree-tree ts (Constant x) h = refl
  node_degree-tree ts (Base c) h = refl
  node_degree-tree ts (Extension c) h = refl
  node_degree-tree ts (Sum x y) h = λ i. max (operand ts x h.0 i) (operand ts y h.1 i)
  node_degree-tree ts (Difference x y) h = λ i. max (operand ts x h.0 i) (operand ts y h.1 i)
  node_degree-tree ts (Product x y) h = λ i. capped_sum (operand ts x h.0 i) (operand ts y h.1 i)

  -- one degree a node
  degrees-length : (ns : List (Node F)) (i : ℕ) → i < length ns → length (map (degree f g) (trees_after [] (take i ns))) ≡ i
  degrees-length ns i h =
      let mapped = length-map (trees_after [] (take i ns)) (degree f g) in
      let trees = length-trees_after {F = F} [] (take i ns) in
      let taken : length (take i ns) ≡ i = grind (arith, common_steps) in
      omega (arith, mapped, trees, taken)

  -- the operands of the node at a place have their degrees
  pub operands-known : (ns : List (Node F)) (i : ℕ) (n : Node F) (ds : List ℕ) → Ordered ns → i < length ns → n ≡ get_or ns i n
      → ds ≡ map (degree f g) (trees_after [] (take i ns)) → OperandsBelow (length ds) n
  operands-known ns i n ds o h e k =
      let P : Node F → Type 0 = λ m. OperandsBelow (0 + i) m in
      let Q : ℕ → Type 0 = λ j. OperandsBelow j n in
      let at : 0 + i ≡ length ds = zero-add i ∙ sym (ap length k ∙ degrees-length ns i h) in
      subst Q at (subst P (sym e) (operands-below 0 ns i n o h))

  -- the degrees of one node more
  pub degrees-more : (ns : List (Node F)) (i : ℕ) (n : Node F) (ds : List ℕ) → Ordered ns → i < length ns → n ≡ get_or ns i n
      → ds ≡ map (degree f g) (trees_after [] (take i ns)) → ds ++ node_degree f g ds n ∷ [] ≡ map (degree f g) (trees_after [] (take (i + 1) ns))
  unfolding trees_after
  degrees-more ns i n ds o h e k =
      let ts = trees_after [] (take i ns) in
      let below = operands-known ns i n (map (degree f g) ts) o h e refl in
      let here = node_degree-tree ts n below in
      let taken : take (i + 1) ns ≡ take i ns ++ n ∷ [] = take_more ns i n h ∙ ap (λ (m : Node F). take i ns ++ m ∷ []) (sym e) in
      let trees : trees_after [] (take (i + 1) ns) ≡ ts ++ node_tree ts n ∷ [] = ap (trees_after []) taken ∙ trees_after-append [] (take i ns) (n ∷ []) in
      let P : List ℕ → Type 0 = λ es. es ++ node_degree f g es n ∷ [] ≡ map (degree f g) (trees_after [] (take (i + 1) ns)) in
      subst P (sym k)
      (ap (λ d. map (degree f g) ts ++ d ∷ []) here ∙ sym (ap (map (degree f g)) trees ∙ map-append (degree f g) ts (node_tree ts n ∷ [])))

  -- the degree at a place
  pub degree-at : (ns : List (Node F)) (i : ℕ) (ds : List ℕ) → i < length ns → ds ≡ map (degree f g) (trees_after [] ns) → get_or ds i 0 ≡ degree f g (tree_at ns i)
  degree-at ns i ds h k =
      let long = length-trees_after {F = F} [] ns in
      let mapped = length-map (trees_after [] ns) (degree f g) in
      ap (λ (es : List ℕ). get_or es i 0) k ∙ operand (trees_after [] ns) i (omega (arith, long, mapped, h))

  -- as many degrees as nodes
  pub degrees-long : (ns : List (Node F)) (ds : List ℕ) → ds ≡ map (degree f g) (trees_after [] ns) → length ds ≡ length ns
  degrees-long ns ds k =
      let long = length-trees_after {F = F} [] ns in
      let mapped = length-map (trees_after [] ns) (degree f g) in
      ap length k ∙ omega (arith, long, mapped)
