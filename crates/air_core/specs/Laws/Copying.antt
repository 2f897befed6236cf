-- Copies of nodes, as one is added.
use Rattle.std.proofs.Common.{◌≡◌, ◌≢◌, ℕ, zero, suc, ◌+◌, ◌<◌, ◌≤◌, ◌++◌, List, [], ◌∷◌, length, Option, Some, None, refl, sym, ◌∙◌, ap, subst, arith, length-append, append_assoc, append-nil, zero-add, inl, inr, ◌⊎◌}
use Rattle.std.specs.Prelude.{Result, IfOk, Ok, Err}
use Rattle.std.proofs.lemmas.Bool.{cases_eq}
use Rattle.air_core.specs.declared.node.Node.{Node}
use Rattle.air_core.specs.declared.node.Node.TheVariants.{Sum, Difference, Product}
use Rattle.air_core.specs.Tree.{Tree, sum, difference, product}
use Rattle.air_core.specs.Symbolic.{node_tree, trees_after, tree_at, OperandsBelow, OrderedFrom}
use Rattle.air_core.specs.Copying.{IsCopied, CopiesTo, count_of_copy, copied_below}
use Rattle.air_core.specs.Laws.Symbolic.{tree_at-append, tree_at-push, ordered-push, NodeIs}

none_differs : {X : Type 0} {x : X} → None ≡ Some x → ⊥
none_differs e = cc

-- no copies of nothing
pub copied-none : {F : Type 0} (ns : List (Node F)) (copy_of : ℕ → Option ℕ) → ((i : ℕ) → copy_of i ≡ None) → IsCopied ns [] copy_of
unfolding OrderedFrom
copied-none ns copy_of h = record { ordered = tt; trees = λ i p e. absurd (none_differs (sym (h i) ∙ e)) }

-- what has a copy needs no other
pub copies-here : {F : Type 0} (ns cs : List (Node F)) (m : ℕ → Option ℕ) (place p : ℕ) → IsCopied ns cs m → m place ≡ Some p → CopiesTo ns cs cs m m place p
copies-here ns cs m place p h e = record {
  copied = h;
  more = [];
  extends = sym (append-nil cs);
  within = (h.trees place p e).0;
  has_tree = (h.trees place p e).1;
  last = λ n. absurd (none_differs (sym n ∙ e));
  others = λ i l. refl;
  count = λ n l. refl;
}

-- a place that is this one, or another
same_or_other : (i j : ℕ) → (i ≡ j) ⊎ (i ≢ j)
same_or_other i j = cases_eq i j

some_same : {X : Type 0} (x y : X) → Some x ≡ Some y → x ≡ y
some_same x y e = cc

-- places that are below n alone count
copied_below-same : (m k : ℕ → Option ℕ) (n : ℕ) → ((i : ℕ) → i < n → k i ≡ m i) → copied_below k n ≡ copied_below m n
copied_below-same m k zero h = refl
copied_below-same m k (suc n) h =
    let rest = copied_below-same m k n (λ i l. h i (omega (arith, l))) in
    let here : count_of_copy (k n) ≡ count_of_copy (m n) = ap count_of_copy (h n (omega arith)) in
    omega (arith, rest, here)

-- one place more
copied_below-more : (m k : ℕ → Option ℕ) (n place p : ℕ) → place < n → m place ≡ None → k place ≡ Some p → ((i : ℕ) → i ≢ place → k i ≡ m i)
    → copied_below k n ≡ copied_below m n + 1
copied_below-more m k zero place p l free here others = absurd (omega (arith, l))
copied_below-more m k (suc n) place p l free here others = elim (same_or_other n place) [
  | inl w ↦
      let rest : copied_below k n ≡ copied_below m n = copied_below-same m k n (λ i b. others i (λ e. omega (arith, b, e, w))) in
      let new : count_of_copy (k n) ≡ 1 = ap (λ i. count_of_copy (k i)) w ∙ ap count_of_copy here in
      let old : count_of_copy (m n) ≡ 0 = ap (λ i. count_of_copy (m i)) w ∙ ap count_of_copy free in
      omega (arith, rest, new, old)
  | inr w ↦
      let rest = copied_below-more m k n place p (omega (arith, l, w)) free here others in
      let same : count_of_copy (k n) ≡ count_of_copy (m n) = ap count_of_copy (others n w) in
      omega (arith, rest, same)
]

counted-most : (x : Option ℕ) → count_of_copy x ≤ 1
counted-most None = omega arith
counted-most (Some p) = omega arith

copied_below-most : (m : ℕ → Option ℕ) (n : ℕ) → copied_below m n ≤ n
copied_below-most m zero = omega arith
copied_below-most m (suc n) = omega (arith, copied_below-most m n, counted-most (m n))

copied_below-none : (m : ℕ → Option ℕ) (n : ℕ) → ((i : ℕ) → m i ≡ None) → copied_below m n ≡ 0
copied_below-none m zero h = refl
copied_below-none m (suc n) h =
    let rest = copied_below-none m n h in
    let here : count_of_copy (m n) ≡ 0 = ap count_of_copy (h n) in
    omega (arith, rest, here)

-- the copies that are made of nothing for a place are as many as the places up to it, at most
pub copies-few : {F : Type 0} (ns old new : List (Node F)) (before after : ℕ → Option ℕ) (place p : ℕ) → length old ≡ 0 → ((i : ℕ) → before i ≡ None)
    → CopiesTo ns old new before after place p → length new ≤ place + 1
copies-few ns old new before after place p empty none h =
    omega (arith, empty, h.count (place + 1) (omega arith), copied_below-none before (place + 1) none, copied_below-most after (place + 1))

-- one node more, whose tree is that of the place
pub copies-add : {F : Type 0} (ns old cs new : List (Node F)) (before m after : ℕ → Option ℕ) (place p : ℕ) (n : Node F) (more : List (Node F))
    → IsCopied ns cs m → cs ≡ old ++ more → OperandsBelow (length cs) n → node_tree (trees_after [] cs) n ≡ tree_at ns place
    → m place ≡ None → ((i : ℕ) → place < i → m i ≡ before i) → ((k : ℕ) → place < k → length cs + copied_below before k ≡ length old + copied_below m k)
    → p ≡ length cs → new ≡ cs ++ n ∷ [] → after place ≡ Some p → ((i : ℕ) → i ≢ place → after i ≡ m i)
    → CopiesTo ns old new before after place p
copies-add {F = F} ns old cs new before m after place p n more h grown below same free kept count last grows here others =
    let long = length-append cs (n ∷ []) in
    let P : ℕ → Type 0 = λ k. OperandsBelow k n in
    let Q : List (Node F) → Type 0 = λ l. CopiesTo ns old l before after place p in
    let added : tree_at (cs ++ n ∷ []) p ≡ tree_at ns place = ap (λ k. tree_at (cs ++ n ∷ []) k) last ∙ tree_at-push cs n ∙ same in
    let within : p < length (cs ++ n ∷ []) = omega (arith, last, long) in
    let trees : (i q : ℕ) → after i ≡ Some q → (q < length (cs ++ n ∷ [])) × (tree_at (cs ++ n ∷ []) q ≡ tree_at ns i) =
    λ i q e. elim (same_or_other i place) [
      | inl w ↦
          let at : p ≡ q = some_same p q (sym here ∙ ap after (sym w) ∙ e) in
          let R : ℕ → Type 0 = λ k. (k < length (cs ++ n ∷ [])) × (tree_at (cs ++ n ∷ []) k ≡ tree_at ns i) in
          subst R at (within, added ∙ ap (λ k. tree_at ns k) (sym w))
      | inr w ↦
          let old = h.trees i q (sym (others i w) ∙ e) in
          (omega (arith, old.0, long), tree_at-append cs (n ∷ []) q old.0 ∙ old.1)
    ] in
    subst Q (sym grows) (record {
      copied = record { ordered = ordered-push 0 cs n h.ordered (subst P (sym (zero-add (length cs))) below); trees = trees };
      more = more ++ n ∷ [];
      extends = ap (λ (l : List (Node F)). l ++ n ∷ []) grown ∙ append_assoc old more (n ∷ []);
      within = within;
      has_tree = added;
      last = λ _. omega (arith, last, long);
      others = λ i l. others i (λ e. omega (arith, l, e)) ∙ kept i l;
      count = λ k l. omega (arith, long, count k l, copied_below-more m after k place p l free here others);
    })

-- copies of two operands, one after the other: both stand among the copies, in the trees of their places
pub record HasCopies {F : Type 0} (ns old cs : List (Node F)) (before m : ℕ → Option ℕ) (x y left right : ℕ) : Type 0 where
  pub copied : IsCopied ns cs m
  pub more : List (Node F)
  pub extends : cs ≡ old ++ more
  pub left_within : left < length cs
  pub right_within : right < length cs
  pub left_tree : tree_at cs left ≡ tree_at ns x
  pub right_tree : tree_at cs right ≡ tree_at ns y
  pub others : (i : ℕ) → x < i → y < i → m i ≡ before i
  pub count : (n : ℕ) → x < n → y < n → length cs + copied_below before n ≡ length old + copied_below m n

pub copies-both : {F : Type 0} (ns old mid cs : List (Node F)) (m1 m2 m3 : ℕ → Option ℕ) (x y left right : ℕ)
    → CopiesTo ns old mid m1 m2 x left → CopiesTo ns mid cs m2 m3 y right → HasCopies ns old cs m1 m3 x y left right
copies-both {F = F} ns old mid cs m1 m2 m3 x y left right h k =
    let long = length-append mid k.more in
    let P : List (Node F) → Type 0 = λ l. (left < length l) × (tree_at l left ≡ tree_at ns x) in
    let kept = subst P (sym k.extends) (omega (arith, h.within, long), tree_at-append mid k.more left h.within ∙ h.has_tree) in
    record {
      copied = k.copied;
      more = h.more ++ k.more;
      extends = k.extends ∙ ap (λ (l : List (Node F)). l ++ k.more) h.extends ∙ append_assoc old h.more k.more;
      left_within = kept.0;
      right_within = k.within;
      left_tree = kept.1;
      right_tree = k.has_tree;
      others = λ i a b. k.others i b ∙ h.others i a;
      count = λ n a b. omega (arith, h.count n a, k.count n b);
    }

-- the same of a call that adds the node, or fails
pub copies-added : {F E : Type 0} (r : Result ℕ E) (ns old cs new : List (Node F)) (before m after : ℕ → Option ℕ) (place : ℕ) (n : Node F) (more : List (Node F))
    → IsCopied ns cs m → cs ≡ old ++ more → OperandsBelow (length cs) n → node_tree (trees_after [] cs) n ≡ tree_at ns place
    → m place ≡ None → ((i : ℕ) → place < i → m i ≡ before i) → ((k : ℕ) → place < k → length cs + copied_below before k ≡ length old + copied_below m k)
    → IfOk r (λ p. p ≡ length cs) → IfOk r (λ _. new ≡ cs ++ n ∷ []) → IfOk r (λ p. after place ≡ Some p) → IfOk r (λ _. (i : ℕ) → i ≢ place → after i ≡ m i)
    → IfOk r (λ p. CopiesTo ns old new before after place p)
copies-added (Ok p) ns old cs new before m after place n more h grown below same free kept count last grows here others =
    copies-add ns old cs new before m after place p n more h grown below same free kept count last grows here others
copies-added (Err e) ns old cs new before m after place n more h grown below same free kept count last grows here others = tt

pub copies-sum : {F E : Type 0} (r : Result ℕ E) (ns old cs new : List (Node F)) (before m after : ℕ → Option ℕ) (place x y left right : ℕ)
    → HasCopies ns old cs before m x y left right → NodeIs ns place (Sum x y) → before place ≡ None
    → IfOk r (λ p. p ≡ length cs) → IfOk r (λ _. new ≡ cs ++ Sum left right ∷ []) → IfOk r (λ p. after place ≡ Some p) → IfOk r (λ _. (i : ℕ) → i ≢ place → after i ≡ m i)
    → IfOk r (λ p. CopiesTo ns old new before after place p)
copies-sum {F = F} r ns old cs new before m after place x y left right h node free last grows here others =
    let same : sum (tree_at cs left) (tree_at cs right) ≡ tree_at ns place =
    ap (λ (a : Tree F). sum a (tree_at cs right)) h.left_tree ∙ ap (λ (b : Tree F). sum (tree_at ns x) b) h.right_tree ∙ sym node.2 in
    copies-added r ns old cs new before m after place (Sum left right) h.more h.copied h.extends (h.left_within, h.right_within) same
    (h.others place node.0 node.1 ∙ free) (λ i l. h.others i (omega (arith, l, node.0)) (omega (arith, l, node.1)))
    (λ k l. h.count k (omega (arith, l, node.0)) (omega (arith, l, node.1))) last grows here others

pub copies-difference : {F E : Type 0} (r : Result ℕ E) (ns old cs new : List (Node F)) (before m after : ℕ → Option ℕ) (place x y left right : ℕ)
    → HasCopies ns old cs before m x y left right → NodeIs ns place (Difference x y) → before place ≡ None
    → IfOk r (λ p. p ≡ length cs) → IfOk r (λ _. new ≡ cs ++ Difference left right ∷ []) → IfOk r (λ p. after place ≡ Some p) → IfOk r (λ _. (i : ℕ) → i ≢ place → after i ≡ m i)
    → IfOk r (λ p. CopiesTo ns old new before after place p)
copies-difference {F = F} r ns old cs new before m after place x y left right h node free last grows here others =
    let same : difference (tree_at cs left) (tree_at cs right) ≡ tree_at ns place =
    ap (λ (a : Tree F). difference a (tree_at cs right)) h.left_tree ∙ ap (λ (b : Tree F). difference (tree_at ns x) b) h.right_tree ∙ sym node.2 in
    copies-added r ns old cs new before m after place (Difference left right) h.more h.copied h.extends (h.left_within, h.right_within) same
    (h.others place node.0 node.1 ∙ free) (λ i l. h.others i (omega (arith, l, node.0)) (omega (arith, l, node.1)))
    (λ k l. h.count k (omega (arith, l, node.0)) (omega (arith, l, node.1))) last grows here others

pub copies-product : {F E : Type 0} (r : Result ℕ E) (ns old cs new : List (Node F)) (before m after : ℕ → Option ℕ) (place x y left right : ℕ)
    → HasCopies ns old cs before m x y left right → NodeIs ns place (Product x y) → before place ≡ None
    → IfOk r (λ p. p ≡ length cs) → IfOk r (λ _. new ≡ cs ++ Product left right ∷ []) → IfOk r (λ p. after place ≡ Some p) → IfOk r (λ _. (i : ℕ) → i ≢ place → after i ≡ m i)
    → IfOk r (λ p. CopiesTo ns old new before after place p)
copies-product {F = F} r ns old cs new before m after place x y left right h node free last grows here others =
    let same : product (tree_at cs left) (tree_at cs right) ≡ tree_at ns place =
    ap (λ (a : Tree F). product a (tree_at cs right)) h.left_tree ∙ ap (λ (b : Tree F). product (tree_at ns x) b) h.right_tree ∙ sym node.2 in
    copies-added r ns old cs new before m after place (Product left right) h.more h.copied h.extends (h.left_within, h.right_within) same
    (h.others place node.0 node.1 ∙ free) (λ i l. h.others i (omega (arith, l, node.0)) (omega (arith, l, node.1)))
    (λ k l. h.count k (omega (arith, l, node.0)) (omega (arith, l, node.1))) last grows here others
