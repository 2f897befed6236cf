-- Trees of nodes, as the list of nodes grows.
use Rattle.std.proofs.Common.{◌≡◌, ℕ, ◌+◌, ◌<◌, ◌++◌, zero, suc, List, [], ◌∷◌, length, refl, sym, ◌∙◌, ap, subst, get_or, arith, length-append, add-zero, zero-add}
use Rattle.std.proofs.lemmas.List.{get_or_append_left, get_or_push}
use Rattle.air_core.specs.declared.cells.Cell.TheVariants.{FirstRow}
use Rattle.air_core.specs.declared.node.Node.{Node}
use Rattle.air_core.specs.declared.node.Node.TheVariants.{Constant, Base, Extension, Sum, Difference, Product}
use Rattle.air_core.specs.Tree.{Tree, constant, cell, ext_cell, sum, difference, product}
use Rattle.air_core.specs.Symbolic.{tree_in, node_tree, trees_after, tree_at, OperandsBelow, OrderedFrom, Ordered}

-- one tree a node
pub length-trees_after : {F : Type 0} (ts : List (Tree F)) (ns : List (Node F)) → length (trees_after ts ns) ≡ length ts + length ns
unfolding trees_after
length-trees_after ts [] = sym (add-zero (length ts))
length-trees_after ts (n ∷ ns) =
    let here = length-trees_after (ts ++ node_tree ts n ∷ []) ns in
    let more = length-append ts (node_tree ts n ∷ []) in
    omega (arith, here, more)

-- the trees given stay where they are
pub trees_after-front : {F : Type 0} (ts : List (Tree F)) (ns : List (Node F)) (i : ℕ) → i < length ts → tree_in (trees_after ts ns) i ≡ tree_in ts i
unfolding trees_after
trees_after-front ts [] i h = refl
trees_after-front ts (n ∷ ns) i h =
    let more = length-append ts (node_tree ts n ∷ []) in
    trees_after-front (ts ++ node_tree ts n ∷ []) ns i (omega (arith, more)) ∙ get_or_append_left ts (node_tree ts n ∷ []) (cell FirstRow) i h

-- nodes, then further nodes
pub trees_after-append : {F : Type 0} (ts : List (Tree F)) (ns ms : List (Node F)) → trees_after ts (ns ++ ms) ≡ trees_after (trees_after ts ns) ms
unfolding trees_after
trees_after-append ts [] ms = refl
trees_after-append ts (n ∷ ns) ms = trees_after-append (ts ++ node_tree ts n ∷ []) ns ms

-- a node has one tree among lists that agree below its place
pub node_tree-agrees : {F : Type 0} (ts us : List (Tree F)) (k : ℕ) (n : Node F) → OperandsBelow k n → ((i : ℕ) → i < k → tree_in us i ≡ tree_in ts i) → node_tree us n ≡ node_tree ts n
node_tree-agrees ts us k (Constant x) h e = refl
node_tree-agrees ts us k (Base c) h e = refl
node_tree-agrees ts us k (Extension c) h e = refl
node_tree-agrees {F = F} ts us k (Sum i j) h e = ap (λ (x : Tree F). sum x (tree_in us j)) (e i h.0) ∙ ap (λ (y : Tree F). sum (tree_in ts i) y) (e j h.1)
node_tree-agrees {F = F} ts us k (Difference i j) h e = ap (λ (x : Tree F). difference x (tree_in us j)) (e i h.0) ∙ ap (λ (y : Tree F). difference (tree_in ts i) y) (e j h.1)
node_tree-agrees {F = F} ts us k (Product i j) h e = ap (λ (x : Tree F). product x (tree_in us j)) (e i h.0) ∙ ap (λ (y : Tree F). product (tree_in ts i) y) (e j h.1)

-- the tree at a node's place is that of the node
pub trees_after-node : {F : Type 0} (ts : List (Tree F)) (ns : List (Node F)) (i : ℕ) (d : Node F) → OrderedFrom (length ts) ns → i < length ns
    → tree_in (trees_after ts ns) (length ts + i) ≡ node_tree (trees_after ts ns) (get_or ns i d)
unfolding trees_after OrderedFrom
trees_after-node ts [] i d o h = absurd (omega (arith, h))
trees_after-node ts (n ∷ ns) zero d o h =
    let t = node_tree ts n in
    let us = trees_after (ts ++ t ∷ []) ns in
    let more = length-append ts (t ∷ []) in
    let here : tree_in us (length ts) ≡ t =
    trees_after-front (ts ++ t ∷ []) ns (length ts) (omega (arith, more)) ∙ get_or_push ts t (cell FirstRow) (length ts) refl in
    let at : length ts + 0 ≡ length ts = add-zero (length ts) in
    ap (λ k. tree_in us k) at ∙ here ∙ sym (node_tree-agrees ts us (length ts) n o.0 (λ i h. trees_after-front ts (n ∷ ns) i h))
trees_after-node ts (n ∷ ns) (suc i) d o h =
    let t = node_tree ts n in
    let more = length-append ts (t ∷ []) in
    let at : length (ts ++ t ∷ []) ≡ suc (length ts) = omega (arith, more) in
    let P : ℕ → Type 0 = λ k. OrderedFrom k ns in
    let step = trees_after-node (ts ++ t ∷ []) ns i d (subst P (sym at) o.1) (omega (arith, h)) in
    let places : length ts + suc i ≡ length (ts ++ t ∷ []) + i = omega (arith, more) in
    ap (λ k. tree_in (trees_after (ts ++ t ∷ []) ns) k) places ∙ step

pub tree_at-node : {F : Type 0} (ns : List (Node F)) (i : ℕ) (d : Node F) → Ordered ns → i < length ns → tree_at ns i ≡ node_tree (trees_after [] ns) (get_or ns i d)
tree_at-node ns i d o h = ap (λ k. tree_at ns k) (omega arith) ∙ trees_after-node [] ns i d o h

-- nodes that come later change no tree
pub tree_at-append : {F : Type 0} (ns ms : List (Node F)) (i : ℕ) → i < length ns → tree_at (ns ++ ms) i ≡ tree_at ns i
tree_at-append {F = F} ns ms i h =
    let long = length-trees_after {F = F} [] ns in
    ap (λ (us : List (Tree F)). tree_in us i) (trees_after-append [] ns ms) ∙ trees_after-front (trees_after [] ns) ms i (omega (arith, long))

-- the tree of a node that is added
pub tree_at-push : {F : Type 0} (ns : List (Node F)) (n : Node F) → tree_at (ns ++ n ∷ []) (length ns) ≡ node_tree (trees_after [] ns) n
unfolding trees_after
tree_at-push {F = F} ns n =
    let ts = trees_after [] ns in
    let long = length-trees_after {F = F} [] ns in
    ap (λ (us : List (Tree F)). tree_in us (length ns)) (trees_after-append [] ns (n ∷ [])) ∙ get_or_push ts (node_tree ts n) (cell FirstRow) (length ns) (omega (arith, long))

-- a node whose operands are in the list may be added
pub ordered-push : {F : Type 0} (k : ℕ) (ns : List (Node F)) (n : Node F) → OrderedFrom k ns → OperandsBelow (k + length ns) n → OrderedFrom k (ns ++ n ∷ [])
unfolding OrderedFrom
ordered-push {F = F} k [] n o h = let P : ℕ → Type 0 = λ j. OperandsBelow j n in (subst P (add-zero k) h, tt)
ordered-push {F = F} k (m ∷ ns) n o h =
    let P : ℕ → Type 0 = λ j. OperandsBelow j n in
    let at : k + length (m ∷ ns) ≡ suc k + length ns = omega arith in
    (o.0, ordered-push (suc k) ns n o.1 (subst P at h))

-- the operands of the node at a place stand before it
pub operands-below : {F : Type 0} (k : ℕ) (ns : List (Node F)) (i : ℕ) (d : Node F) → OrderedFrom k ns → i < length ns → OperandsBelow (k + i) (get_or ns i d)
unfolding OrderedFrom
operands-below k [] i d o h = absurd (omega (arith, h))
operands-below k (n ∷ ns) zero d o h = let P : ℕ → Type 0 = λ j. OperandsBelow j n in subst P (sym (add-zero k)) o.0
operands-below k (n ∷ ns) (suc i) d o h =
    let P : ℕ → Type 0 = λ j. OperandsBelow j (get_or ns i d) in
    let at : suc k + i ≡ k + suc i = omega arith in
    subst P at (operands-below (suc k) ns i d o.1 (omega (arith, h)))

-- what a node at a place says of its tree, by the kind of node
abbrev pub NodeIs : {F : Type 0} → List (Node F) → ℕ → Node F → Type 0
NodeIs ns i (Constant x) = tree_at ns i ≡ constant x
NodeIs ns i (Base c) = tree_at ns i ≡ cell c
NodeIs ns i (Extension c) = tree_at ns i ≡ ext_cell c
NodeIs ns i (Sum x y) = (x < i) × (y < i) × (tree_at ns i ≡ sum (tree_at ns x) (tree_at ns y))
NodeIs ns i (Difference x y) = (x < i) × (y < i) × (tree_at ns i ≡ difference (tree_at ns x) (tree_at ns y))
NodeIs ns i (Product x y) = (x < i) × (y < i) × (tree_at ns i ≡ product (tree_at ns x) (tree_at ns y))

node_is-from : {F : Type 0} (ns : List (Node F)) (i : ℕ) (n : Node F) → OperandsBelow i n → tree_at ns i ≡ node_tree (trees_after [] ns) n → NodeIs ns i n
node_is-from ns i (Constant x) o e = e
node_is-from ns i (Base c) o e = e
node_is-from ns i (Extension c) o e = e
node_is-from ns i (Sum x y) o e = (o.0, o.1, e)
node_is-from ns i (Difference x y) o e = (o.0, o.1, e)
node_is-from ns i (Product x y) o e = (o.0, o.1, e)

pub node_is : {F : Type 0} (ns : List (Node F)) (i : ℕ) (d n : Node F) → Ordered ns → i < length ns → get_or ns i d ≡ n → NodeIs ns i n
node_is {F = F} ns i d n o h e =
    let P : Node F → Type 0 = λ m. NodeIs ns i m in
    let Q : ℕ → Type 0 = λ k. OperandsBelow k (get_or ns i d) in
    subst P e (node_is-from ns i (get_or ns i d) (subst Q (zero-add i) (operands-below 0 ns i d o h)) (tree_at-node ns i d o h))
