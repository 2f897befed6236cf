-- Recordings, as nodes, assertions and interactions are added.
use Rattle.std.proofs.Common.{◌≡◌, ℕ, ◌<◌, ◌≤◌, ◌%◌, ◌++◌, zero, suc, Bool, List, [], ◌∷◌, length, map, All, Option, refl, sym, ◌∙◌, ap, subst, get_or, take, arith, length-append, append_assoc, append-nil, zero-add, add-zero, ◌+◌, cond, true, false}
use Rattle.std.specs.Prelude.{Result, IfOk}
use Rattle.std.proofs.lemmas.List.Elements.{All-head, All-tail, All-push}
use Rattle.std.proofs.lemmas.List.{map-append, length-map, take_more}
use Rattle.std.proofs.lemmas.Grind.{common_steps}
use Rattle.std.proofs.lemmas.Bool.Decides.{nat_tests}
use Rattle.air_core.specs.declared.cells.Count.{Count}
use Rattle.air_core.specs.declared.layout.AirLayout.{AirLayout}
use Rattle.air_core.specs.declared.node.Node.{Node}
use Rattle.air_core.specs.declared.node.Node.TheVariants.{Constant, Sum, Difference, Product}
use Rattle.air_core.specs.declared.recorded.Assertion.{Assertion}
use Rattle.air_core.specs.Tree.{Tree, Asserted, Interaction, Bus, local, global, sum, difference, product, Represent, RepresentsCount}
use Rattle.air_core.specs.Operation.{Operation, tree_by}
use Rattle.air_core.specs.Layout.{layout_shape}
use Rattle.air_core.specs.Symbolic.{node_tree, trees_after, tree_at, OperandsBelow, OrderedFrom}
use Rattle.air_core.specs.Placed.{Placed}
use Rattle.air_core.specs.Recording.{Recording, asserted_tree, asserted_at, bus_of, count_at, interaction_at, sent_at, PlacedBelow, IsRecording, RepresentsAt, IsLater, HasAppended, Computes, place_or_zero, tree_or_zero, count_or_zero, is_in, indices_from, asserting, name_of, sending}
use Rattle.air_core.specs.Laws.Symbolic.{tree_at-append, tree_at-push, ordered-push}

-- places below a number are below a larger one
pub all_below-more : (n m : ℕ) (is : List ℕ) → n ≤ m → All (λ i. i < n) is → All (λ i. i < m) is
all_below-more n m is h a k d l = omega (arith, a k d l)

pub counts_below-more : (n m : ℕ) (cs : List (Count ℕ)) → n ≤ m → All (λ c. c.value < n) cs → All (λ c. c.value < m) cs
counts_below-more n m cs h a k d l = omega (arith, a k d l)

pub asserted_below-more : (n m : ℕ) (xs : List Assertion) → n ≤ m → All (λ a. a.place < n) xs → All (λ a. a.place < m) xs
asserted_below-more n m xs h a k d l = omega (arith, a k d l)

pub placed_below-more : (n m : ℕ) (ps : List Placed) → n ≤ m → All (PlacedBelow n) ps → All (PlacedBelow m) ps
placed_below-more n m ps h a k d l =
    let p = get_or ps k d in
    let q = a k d l in
    record { fields = all_below-more n m p.fields h q.fields; counts = counts_below-more n m p.counts h q.counts; counted = q.counted; whole = q.whole }

-- further nodes change no tree that was asserted or sent
pub asserted_at-more : {F : Type 0} (ns ms : List (Node F)) (xs : List Assertion) → All (λ a. a.place < length ns) xs → asserted_at (ns ++ ms) xs ≡ asserted_at ns xs
asserted_at-more ns ms [] h = refl
asserted_at-more {F = F} ns ms (x ∷ xs) h =
    let here : asserted_tree (ns ++ ms) x ≡ asserted_tree ns x =
    ap (λ (t : Tree F). record { tree = t; in_extension = x.in_extension }) (tree_at-append ns ms x.place (All-head (λ (a : Assertion). a.place < length ns) x xs h)) in
    ap (λ (t : Asserted F). t ∷ asserted_at (ns ++ ms) xs) here
    ∙ ap (λ (ts : List (Asserted F)). asserted_tree ns x ∷ ts) (asserted_at-more ns ms xs (All-tail (λ (a : Assertion). a.place < length ns) x xs h))

pub fields_at-more : {F : Type 0} (ns ms : List (Node F)) (is : List ℕ) → All (λ i. i < length ns) is → map (tree_at (ns ++ ms)) is ≡ map (tree_at ns) is
fields_at-more ns ms [] h = refl
fields_at-more {F = F} ns ms (i ∷ is) h =
    ap (λ (t : Tree F). t ∷ map (tree_at (ns ++ ms)) is) (tree_at-append ns ms i (All-head (λ j. j < length ns) i is h)) ∙ ap (λ (ts : List (Tree F)). tree_at ns i ∷ ts) (fields_at-more ns ms is (All-tail (λ j. j < length ns) i is h))

pub counts_at-more : {F : Type 0} (ns ms : List (Node F)) (cs : List (Count ℕ)) → All (λ c. c.value < length ns) cs → map (count_at (ns ++ ms)) cs ≡ map (count_at ns) cs
counts_at-more ns ms [] h = refl
counts_at-more {F = F} ns ms (c ∷ cs) h =
    ap (λ (t : Tree F). record { value = t; bound = c.bound } ∷ map (count_at (ns ++ ms)) cs) (tree_at-append ns ms c.value (All-head (λ (d : Count ℕ). d.value < length ns) c cs h))
    ∙ ap (λ (vs : List (Count (Tree F))). count_at ns c ∷ vs) (counts_at-more ns ms cs (All-tail (λ (d : Count ℕ). d.value < length ns) c cs h))

pub sent_at-more : {F : Type 0} (ns ms : List (Node F)) (ps : List Placed) → All (PlacedBelow (length ns)) ps → sent_at (ns ++ ms) ps ≡ sent_at ns ps
sent_at-more ns ms [] h = refl
sent_at-more {F = F} ns ms (p ∷ ps) h =
    let q = All-head (PlacedBelow (length ns)) p ps h in
    let f : map (tree_at (ns ++ ms)) p.fields ≡ map (tree_at ns) p.fields = fields_at-more ns ms p.fields q.fields in
    let c : map (count_at (ns ++ ms)) p.counts ≡ map (count_at ns) p.counts = counts_at-more ns ms p.counts q.counts in
    let here : interaction_at (ns ++ ms) p ≡ interaction_at ns p =
    ap (λ (ts : List (Tree F)). record { bus = bus_of p.bus; fields = ts; counts = map (count_at (ns ++ ms)) p.counts }) f
    ∙ ap (λ (vs : List (Count (Tree F))). record { bus = bus_of p.bus; fields = map (tree_at ns) p.fields; counts = vs }) c in
    ap (λ (i : Interaction F). i ∷ sent_at (ns ++ ms) ps) here ∙ ap (λ (is : List (Interaction F)). interaction_at ns p ∷ is) (sent_at-more ns ms ps (All-tail (PlacedBelow (length ns)) p ps h))

-- the laws of builders
pub later-same : {F : Type 0} (a : Recording F) → IsLater a a
later-same a = record { layout = refl; more = []; extends = sym (append-nil a.nodes) }

pub later-along : {F : Type 0} (a b c : Recording F) → IsLater a b → IsLater b c → IsLater a c
later-along {F = F} a b c h k = record {
  layout = k.layout ∙ h.layout;
  more = h.more ++ k.more;
  extends = k.extends ∙ ap (λ (ns : List (Node F)). ns ++ k.more) h.extends ∙ append_assoc a.nodes h.more k.more;
}

pub later-shape : {F : Type 0} (a b : Recording F) → IsLater a b → layout_shape b.layout ≡ layout_shape a.layout
later-shape a b h = ap layout_shape h.layout

pub represents-more : {F : Type 0} (ns ms more : List (Node F)) (e : ℕ) (t : Tree F) → ms ≡ ns ++ more → RepresentsAt ns e t → RepresentsAt ms e t
represents-more {F = F} ns ms more e t h k =
    let long = length-append ns more in
    let P : List (Node F) → Type 0 = λ l. RepresentsAt l e t in
    subst P (sym h) (record { within = omega (arith, long, k.within); has_tree = tree_at-append ns more e k.within ∙ k.has_tree })

pub represents-later : {F : Type 0} (a b : Recording F) → IsLater a b → (e : ℕ) (t : Tree F) → RepresentsAt a.nodes e t → RepresentsAt b.nodes e t
represents-later a b h e t k = represents-more a.nodes b.nodes h.more e t h.extends k

pub appends-none : {F : Type 0} (a : Recording F) → HasAppended a a [] []
appends-none a = record { later = later-same a; trees = sym (append-nil _); sent = sym (append-nil _) }

pub appends-along : {F : Type 0} (a b c : Recording F) (s t : List (Asserted F)) (i j : List (Interaction F)) → HasAppended a b s i → HasAppended b c t j → HasAppended a c (s ++ t) (i ++ j)
appends-along {F = F} a b c s t i j h k = record {
  later = later-along a b c h.later k.later;
  trees = k.trees ∙ ap (λ (ts : List (Asserted F)). ts ++ t) h.trees ∙ append_assoc (asserted_at a.nodes a.asserted) s t;
  sent = k.sent ∙ ap (λ (is : List (Interaction F)). is ++ j) h.sent ∙ append_assoc (sent_at a.nodes a.interactions) i j;
}

-- one node more
pub recording-push : {F : Type 0} (r : Recording F) (n : Node F) → IsRecording r → OperandsBelow (length r.nodes) n → IsRecording (record r { nodes = r.nodes ++ n ∷ [] })
recording-push r n h below =
    let long = length-append r.nodes (n ∷ []) in
    record {
      rooted = omega (arith, long);
      ordered = ordered-push 0 r.nodes n h.ordered (let P : ℕ → Type 0 = λ k. OperandsBelow k n in subst P (sym (zero-add (length r.nodes))) below);
      asserted = asserted_below-more (length r.nodes) (length (r.nodes ++ n ∷ [])) r.asserted (omega (arith, long)) h.asserted;
      interactions = placed_below-more (length r.nodes) (length (r.nodes ++ n ∷ [])) r.interactions (omega (arith, long)) h.interactions;
    }

pub appends-push : {F : Type 0} (r : Recording F) (n : Node F) → IsRecording r → HasAppended r (record r { nodes = r.nodes ++ n ∷ [] }) [] []
appends-push r n h = record {
  later = record { layout = refl; more = n ∷ []; extends = refl };
  trees = asserted_at-more r.nodes (n ∷ []) r.asserted h.asserted ∙ sym (append-nil _);
  sent = sent_at-more r.nodes (n ∷ []) r.interactions h.interactions ∙ sym (append-nil _);
}

pub represents-push : {F : Type 0} (ns : List (Node F)) (n : Node F) (k : ℕ) → k ≡ length ns → RepresentsAt (ns ++ n ∷ []) k (node_tree (trees_after [] ns) n)
represents-push ns n k e = record { within = omega (arith, e, length-append ns (n ∷ [])); has_tree = ap (λ i. tree_at (ns ++ n ∷ []) i) e ∙ tree_at-push ns n }

-- an expression that represents a tree is among the nodes
pub place_or_zero-represents : {F : Type 0} (ns : List (Node F)) (x : ℕ) (t : Tree F) → RepresentsAt ns x t → place_or_zero (length ns) x ≡ x
place_or_zero-represents ns x t h = let w = h.within in grind (arith, nat_tests)

pub known_place-tree : {F : Type 0} (ns : List (Node F)) (x : ℕ) (t : Tree F) → RepresentsAt ns x t → tree_at ns (place_or_zero (length ns) x) ≡ t
known_place-tree ns x t h = ap (λ k. tree_at ns k) (place_or_zero-represents ns x t h) ∙ h.has_tree

-- what operations on expressions with trees give has the operation's tree, and what is lifted keeps its tree
pub computes-represents : {F : Type 0} (a b : Recording F) → IsLater a b → (op : Operation) (x y e : ℕ) (s t : Tree F) → RepresentsAt a.nodes x s → RepresentsAt a.nodes y t
    → Computes a op x y b e → RepresentsAt b.nodes e (tree_by op s t)
computes-represents {F = F} a b later op x y e s t h k q =
    let P : Tree F → Type 0 = λ u. RepresentsAt b.nodes e (tree_by op u (tree_or_zero a.nodes y)) in
    let Q : Tree F → Type 0 = λ u. RepresentsAt b.nodes e (tree_by op s u) in
    subst Q (known_place-tree a.nodes y t k) (subst P (known_place-tree a.nodes x s h) q)

pub lifts-represents : {F : Type 0} (a b : Recording F) → IsLater a b → (x e : ℕ) (t : Tree F) → RepresentsAt a.nodes x t → RepresentsAt b.nodes e (tree_or_zero a.nodes x) → RepresentsAt b.nodes e t
lifts-represents {F = F} a b later x e t h q = let P : Tree F → Type 0 = λ u. RepresentsAt b.nodes e u in subst P (known_place-tree a.nodes x t h) q

pub known_place-below : (n x : ℕ) → 0 < n → place_or_zero n x < n
known_place-below n x h = grind (arith, nat_tests)

-- a recording of nothing, whose first node is a constant
pub recording-first : {F : Type 0} (l : AirLayout) (x : F) → IsRecording {F = F} (record { layout = l; nodes = Constant x ∷ []; asserted = []; interactions = [] })
unfolding OrderedFrom
recording-first l x = record {
  rooted = omega arith;
  ordered = (tt, tt);
  asserted = λ k d h. absurd (omega (arith, h));
  interactions = λ k d h. absurd (omega (arith, h));
}

-- one interaction more is among the nodes
pub recording-send : {F : Type 0} (r : Recording F) (p : Placed) → IsRecording r → PlacedBelow (length r.nodes) p
    → IsRecording (record r { interactions = r.interactions ++ p ∷ [] })
recording-send {F = F} r p h below = record {
  rooted = h.rooted;
  ordered = h.ordered;
  asserted = h.asserted;
  interactions = All-push (PlacedBelow (length r.nodes)) r.interactions p h.interactions below;
}

-- known places are below the number of nodes
pub known_places-below : (n : ℕ) (xs : List ℕ) → 0 < n → All (λ i. i < n) (map (place_or_zero n) xs)
known_places-below n [] h k d l = absurd (omega (arith, l))
known_places-below n (x ∷ xs) h zero d l = known_place-below n x h
known_places-below n (x ∷ xs) h (suc k) d l = known_places-below n xs h k d (omega (arith, l))

pub known_counts-below : (n : ℕ) (xs : List (Count ℕ)) → 0 < n → All (λ c. c.value < n) (map (count_or_zero n) xs)
known_counts-below n [] h k d l = absurd (omega (arith, l))
known_counts-below n (x ∷ xs) h zero d l = known_place-below n x.value h
known_counts-below n (x ∷ xs) h (suc k) d l = known_counts-below n xs h k d (omega (arith, l))

-- an interaction's known places, as many as its expressions
pub placed-known : (n : ℕ) (bus : Option (List ℕ)) (xs : List ℕ) (cs : List (Count ℕ)) → 0 < n → 0 < length cs → length xs % length cs ≡ 0
    → PlacedBelow n (record { bus = bus; fields = map (place_or_zero n) xs; counts = map (count_or_zero n) cs })
placed-known n bus xs cs h counted whole = record {
  fields = known_places-below n xs h;
  counts = known_counts-below n cs h;
  counted = omega (arith, counted, length-map cs (count_or_zero n));
  whole = rw (length-map cs (count_or_zero n), length-map xs (place_or_zero n)) whole;
}

pub placed-known-at : (n m k : ℕ) (bus : Option (List ℕ)) (xs : List ℕ) (cs : List (Count ℕ)) (fields : List ℕ) (counts : List (Count ℕ)) → m ≡ n → k ≡ n
    → fields ≡ map (place_or_zero m) xs → counts ≡ map (count_or_zero k) cs → 0 < n → 0 < length cs → length xs % length cs ≡ 0
    → PlacedBelow n (record { bus = bus; fields = fields; counts = counts })
placed-known-at n m k bus xs cs fields counts e f g h below counted whole =
    rw (g, h, e, f) (placed-known n bus xs cs below counted whole)

-- expressions that represent trees have these trees at their places
pub known_places-trees : {F : Type 0} (ns : List (Node F)) (xs : List ℕ) (ts : List (Tree F)) → Represent (RepresentsAt ns) xs ts → map (tree_at ns) (map (place_or_zero (length ns)) xs) ≡ ts
known_places-trees ns [] [] h = refl
known_places-trees ns [] (t ∷ ts) h = absurd (omega (arith, h.long))
known_places-trees ns (x ∷ xs) [] h = absurd (omega (arith, h.long))
known_places-trees {F = F} ns (x ∷ xs) (t ∷ ts) h =
    let here = known_place-tree ns x t (h.each 0 x t (omega arith)) in
    let rest : Represent (RepresentsAt ns) xs ts = record { long = omega (arith, h.long); each = λ k d u l. h.each (suc k) d u (omega (arith, l)) } in
    ap (λ (u : Tree F). u ∷ map (tree_at ns) (map (place_or_zero (length ns)) xs)) here ∙ ap (λ (us : List (Tree F)). t ∷ us) (known_places-trees ns xs ts rest)

pub known_counts-trees : {F : Type 0} (ns : List (Node F)) (xs : List (Count ℕ)) (ts : List (Count (Tree F))) → Represent (RepresentsCount (RepresentsAt ns)) xs ts
    → map (count_at ns) (map (count_or_zero (length ns)) xs) ≡ ts
known_counts-trees ns [] [] h = refl
known_counts-trees ns [] (t ∷ ts) h = absurd (omega (arith, h.long))
known_counts-trees ns (x ∷ xs) [] h = absurd (omega (arith, h.long))
known_counts-trees {F = F} ns (x ∷ xs) (t ∷ ts) h =
    let represents = h.each 0 x t (omega arith) in
    let value = known_place-tree ns x.value t.value represents.0 in
    let here : count_at ns (count_or_zero (length ns) x) ≡ t =
    ap (λ (u : Tree F). record { value = u; bound = x.bound }) value ∙ ap (λ (b : ℕ). record { value = t.value; bound = b }) (sym represents.1) in
    let rest : Represent (RepresentsCount (RepresentsAt ns)) xs ts = record { long = omega (arith, h.long); each = λ k d u l. h.each (suc k) d u (omega (arith, l)) } in
    ap (λ (u : Count (Tree F)). u ∷ map (count_at ns) (map (count_or_zero (length ns)) xs)) here ∙ ap (λ (us : List (Count (Tree F))). t ∷ us) (known_counts-trees ns xs ts rest)

-- one interaction more
pub appends-send : {F : Type 0} (r : Recording F) (bus : Option (List ℕ)) (xs : List ℕ) (cs : List (Count ℕ)) (fs : List (Tree F)) (vs : List (Count (Tree F)))
    → Represent (RepresentsAt r.nodes) xs fs → Represent (RepresentsCount (RepresentsAt r.nodes)) cs vs
    → HasAppended r (record r { interactions = r.interactions ++ record { bus = bus; fields = map (place_or_zero (length r.nodes)) xs; counts = map (count_or_zero (length r.nodes)) cs } ∷ [] })
    [] (record { bus = bus_of bus; fields = fs; counts = vs } ∷ [])
appends-send {F = F} r bus xs cs fs vs h k =
    let p : Placed = record { bus = bus; fields = map (place_or_zero (length r.nodes)) xs; counts = map (count_or_zero (length r.nodes)) cs } in
    record {
      later = record { layout = refl; more = []; extends = sym (append-nil r.nodes) };
      trees = sym (append-nil _);
      sent = map-append (interaction_at r.nodes) r.interactions (p ∷ [])
          ∙ ap (λ (us : List (Tree F)). sent_at r.nodes r.interactions ++ record { bus = bus_of bus; fields = us; counts = map (count_at r.nodes) p.counts } ∷ []) (known_places-trees r.nodes xs fs h)
          ∙ ap (λ (us : List (Count (Tree F))). sent_at r.nodes r.interactions ++ record { bus = bus_of bus; fields = fs; counts = us } ∷ []) (known_counts-trees r.nodes cs vs k);
    }

-- one assertion more
pub asserting-appends : {F : Type 0} (a b : Recording F) (x : ℕ) (in_extension : Bool) (t : Tree F) → RepresentsAt a.nodes x t → b ≡ asserting a x in_extension
    → HasAppended a b (record { tree = t; in_extension = in_extension } ∷ []) []
asserting-appends {F = F} a b x in_extension t h e =
    let one : Assertion = record { place = place_or_zero (length a.nodes) x; in_extension = in_extension } in
    let grown : HasAppended a (asserting a x in_extension) (record { tree = t; in_extension = in_extension } ∷ []) [] = record {
      later = record { layout = refl; more = []; extends = sym (append-nil a.nodes) };
      trees = map-append (asserted_tree a.nodes) a.asserted (one ∷ [])
          ∙ ap (λ (u : Tree F). asserted_at a.nodes a.asserted ++ record { tree = u; in_extension = in_extension } ∷ []) (known_place-tree a.nodes x t h);
      sent = sym (append-nil _);
    } in
    let P : Recording F → Type 0 = λ r. HasAppended a r (record { tree = t; in_extension = in_extension } ∷ []) [] in
    subst P (sym e) grown

bus_of-name : (bus : Bus) → bus_of (name_of bus) ≡ bus
bus_of-name local = refl
bus_of-name (global name) = refl

pub sending-appends : {F : Type 0} (a b : Recording F) (bus : Bus) (xs : List ℕ) (cs : List (Count ℕ)) (fs : List (Tree F)) (vs : List (Count (Tree F)))
    → Represent (RepresentsAt a.nodes) xs fs → Represent (RepresentsCount (RepresentsAt a.nodes)) cs vs → b ≡ sending a (name_of bus) xs cs
    → HasAppended a b [] (record { bus = bus; fields = fs; counts = vs } ∷ [])
sending-appends {F = F} a b bus xs cs fs vs h k e =
    let P : Recording F → Type 0 = λ r. HasAppended a r [] (record { bus = bus; fields = fs; counts = vs } ∷ []) in
    let Q : Bus → Type 0 = λ c. HasAppended a (sending a (name_of bus) xs cs) [] (record { bus = c; fields = fs; counts = vs } ∷ []) in
    subst P (sym e) (subst Q (bus_of-name bus) (appends-send a (name_of bus) xs cs fs vs h k))

pub represents-sum : {F E : Type 0} (r : Result ℕ E) (ns ms : List (Node F)) (x y : ℕ) (s t : Tree F) → RepresentsAt ns x s → RepresentsAt ns y t
    → IfOk r (λ e. RepresentsAt ms e (node_tree (trees_after [] ns) (Sum (place_or_zero (length ns) x) (place_or_zero (length ns) y))))
    → IfOk r (λ e. RepresentsAt ms e (sum s t))
represents-sum {F = F} r ns ms x y s t h k q =
    let left : tree_at ns (place_or_zero (length ns) x) ≡ s = known_place-tree ns x s h in
    let right : tree_at ns (place_or_zero (length ns) y) ≡ t = known_place-tree ns y t k in
    let e = ap (λ (a : Tree F). sum a (tree_at ns (place_or_zero (length ns) y))) left ∙ ap (λ (b : Tree F). sum s b) right in
    let P : Tree F → Type 0 = λ u. IfOk r (λ i. RepresentsAt ms i u) in
    subst P e q

pub represents-difference : {F E : Type 0} (r : Result ℕ E) (ns ms : List (Node F)) (x y : ℕ) (s t : Tree F) → RepresentsAt ns x s → RepresentsAt ns y t
    → IfOk r (λ e. RepresentsAt ms e (node_tree (trees_after [] ns) (Difference (place_or_zero (length ns) x) (place_or_zero (length ns) y))))
    → IfOk r (λ e. RepresentsAt ms e (difference s t))
represents-difference {F = F} r ns ms x y s t h k q =
    let left : tree_at ns (place_or_zero (length ns) x) ≡ s = known_place-tree ns x s h in
    let right : tree_at ns (place_or_zero (length ns) y) ≡ t = known_place-tree ns y t k in
    let e = ap (λ (a : Tree F). difference a (tree_at ns (place_or_zero (length ns) y))) left ∙ ap (λ (b : Tree F). difference s b) right in
    let P : Tree F → Type 0 = λ u. IfOk r (λ i. RepresentsAt ms i u) in
    subst P e q

pub represents-product : {F E : Type 0} (r : Result ℕ E) (ns ms : List (Node F)) (x y : ℕ) (s t : Tree F) → RepresentsAt ns x s → RepresentsAt ns y t
    → IfOk r (λ e. RepresentsAt ms e (node_tree (trees_after [] ns) (Product (place_or_zero (length ns) x) (place_or_zero (length ns) y))))
    → IfOk r (λ e. RepresentsAt ms e (product s t))
represents-product {F = F} r ns ms x y s t h k q =
    let left : tree_at ns (place_or_zero (length ns) x) ≡ s = known_place-tree ns x s h in
    let right : tree_at ns (place_or_zero (length ns) y) ≡ t = known_place-tree ns y t k in
    let e = ap (λ (a : Tree F). product a (tree_at ns (place_or_zero (length ns) y))) left ∙ ap (λ (b : Tree F). product s b) right in
    let P : Tree F → Type 0 = λ u. IfOk r (λ i. RepresentsAt ms i u) in
    subst P e q

chosen : (b : Bool) (k : ℕ) (xs ys zs : List ℕ) → xs ≡ ys ++ zs → cond b (k ∷ xs) xs ≡ cond b (k ∷ ys) ys ++ zs
chosen true k xs ys zs e = ap (λ l. k ∷ l) e
chosen false k xs ys zs e = e

-- the places of one assertion more
pub indices_from-push : (extension : Bool) (k : ℕ) (xs : List Assertion) (a : Assertion)
    → indices_from extension k (xs ++ a ∷ []) ≡ indices_from extension k xs ++ cond (is_in extension a) ((k + length xs) ∷ []) []
unfolding indices_from
indices_from-push extension k [] a = ap (λ j. cond (is_in extension a) (j ∷ []) []) (sym (add-zero k))
indices_from-push extension k (x ∷ xs) a =
    let step = indices_from-push extension (suc k) xs a in
    let at : suc k + length xs ≡ k + length (x ∷ xs) = omega arith in
    let here : indices_from extension (suc k) (xs ++ a ∷ []) ≡ indices_from extension (suc k) xs ++ cond (is_in extension a) ((k + length (x ∷ xs)) ∷ []) [] =
    step ∙ ap (λ j. indices_from extension (suc k) xs ++ cond (is_in extension a) (j ∷ []) []) at in
    chosen (is_in extension x) k (indices_from extension (suc k) (xs ++ a ∷ [])) (indices_from extension (suc k) xs) (cond (is_in extension a) ((k + length (x ∷ xs)) ∷ []) []) here

chosen_below : (b : Bool) (k n : ℕ) (xs : List ℕ) → k < n → All (λ i. i < n) xs → All (λ i. i < n) (cond b (k ∷ xs) xs)
chosen_below true k n xs h a zero d l = h
chosen_below true k n xs h a (suc j) d l = a j d (omega (arith, l))
chosen_below false k n xs h a j d l = a j d l

-- each listed place is that of an assertion
pub indices_from-below : (extension : Bool) (k : ℕ) (xs : List Assertion) → All (λ i. i < k + length xs) (indices_from extension k xs)
unfolding indices_from
indices_from-below extension k [] j d l = absurd (omega (arith, l))
indices_from-below extension k (x ∷ xs) j d l =
    let rest : All (λ i. i < k + length (x ∷ xs)) (indices_from extension (suc k) xs) = λ i e m. omega (arith, indices_from-below extension (suc k) xs i e m) in
    chosen_below (is_in extension x) k (k + length (x ∷ xs)) (indices_from extension (suc k) xs) (omega arith) rest j d l

both_chosen : (b : Bool) (k j : ℕ) (xs ys : List ℕ) (n : ℕ) → length xs + length ys ≡ n
    → length (cond (cond b false true) (k ∷ xs) xs) + length (cond (cond b true false) (j ∷ ys) ys) ≡ suc n
both_chosen true k j xs ys n e = omega (arith, e)
both_chosen false k j xs ys n e = omega (arith, e)

-- each assertion is over the base field or over the extension
pub indices_from-both : (k j : ℕ) (xs : List Assertion) → length (indices_from false k xs) + length (indices_from true j xs) ≡ length xs
unfolding indices_from
indices_from-both k j [] = refl
indices_from-both k j (x ∷ xs) =
    both_chosen x.in_extension k j (indices_from false (suc k) xs) (indices_from true (suc j) xs) (length xs) (indices_from-both (suc k) (suc j) xs)

pub indices-below : (extension : Bool) (xs : List Assertion) → All (λ i. i < length xs) (indices_from extension 0 xs)
indices-below extension xs j d l = omega (arith, indices_from-below extension 0 xs j d l)

pub indices-step : (extension : Bool) (xs : List Assertion) (i : ℕ) (d : Assertion) → i < length xs
    → indices_from extension 0 (take (i + 1) xs) ≡ indices_from extension 0 (take i xs) ++ cond (is_in extension (get_or xs i d)) (i ∷ []) []
indices-step extension xs i d l =
    let at : 0 + length (take i xs) ≡ i = grind (arith, common_steps) in
    ap (λ ys. indices_from extension 0 ys) (take_more xs i d l)
    ∙ indices_from-push extension 0 (take i xs) (get_or xs i d)
    ∙ ap (λ j. indices_from extension 0 (take i xs) ++ cond (is_in extension (get_or xs i d)) (j ∷ []) []) at

pub indices-none : (extension : Bool) → indices_from extension 0 [] ≡ []
unfolding indices_from
indices-none extension = refl
