-- Turns of loops that go down a list from its end.
use Rattle.std.proofs.Common.{◌≡◌, ℕ, zero, suc, ◌+◌, ◌<◌, false, List, [], ◌∷◌, ◌++◌, length, get_or, map, drop, take, refl, sym, ◌∙◌, ap, subst, arith}
use Rattle.std.specs.Prelude.{All, ◌==◌}
use Rattle.std.proofs.lemmas.List.{length-map, map-append}
use Rattle.p3_field.specs.Ring.{Ring}
use Rattle.p3_field.specs.Poly.{eval_poly}
use Rattle.air_core.specs.declared.cells.Count.{Count}
use Rattle.air_core.specs.Tree.{Tree, sum, over_extension}
use Rattle.p3_lookup.specs.Lookup.{LookupData, pair_up}
use Rattle.p3_lookup.specs.Trees.{column_tree, sum_tree, fraction_tree, fraction_trees, running_trees, lookup_trees}

pub mapped_item : {X Y : Type 0} (f : X → Y) (xs : List X) (i : ℕ) (x : X) (d : Y) → i < length xs → x ≡ get_or xs i x → get_or (map f xs) i d ≡ f x
mapped_item f [] i x d h e = absurd (omega (arith, h))
mapped_item f (y ∷ ys) zero x d h e = ap f (sym e)
mapped_item f (y ∷ ys) (suc i) x d h e = mapped_item f ys i x d (omega (arith, h)) e

-- what holds of each image holds of an item's
pub at_item : {X Y : Type 0} (P : Y → Type 0) (f : X → Y) (xs : List X) (i : ℕ) (x : X) → i < length xs → x ≡ get_or xs i x → All P (map f xs) → P (f x)
at_item P f xs i x h e all =
    let lt : i < length (map f xs) = omega (arith, h, length-map xs f) in
    subst P (mapped_item f xs i x (f x) h e) (all i (f x) lt)

-- an item, and those after it
pub dropped : {X Y : Type 0} (f : X → Y) (xs : List X) (i j : ℕ) (x : X) → suc j ≡ i → j < length xs → x ≡ get_or xs j x → drop j (map f xs) ≡ f x ∷ drop i (map f xs)
dropped f [] i j x s h e = absurd (omega (arith, h))
dropped f (y ∷ ys) i zero x s h e = let one : i ≡ suc zero = sym s in ap (λ z. f z ∷ map f ys) (sym e) ∙ ap (λ k. f x ∷ drop k (f y ∷ map f ys)) (sym one)
dropped f (y ∷ ys) i (suc j) x s h e =
    let two : suc (suc j) ≡ i = s in
    dropped f ys (suc j) j x refl (omega (arith, h)) e ∙ ap (λ k. f x ∷ drop k (f y ∷ map f ys)) two

pub eval_turn : {X A : Type 0} (r : Ring A) (f : X → A) (xs : List X) (i j : ℕ) (x : X) (b : A) → suc j ≡ i → j < length xs → x ≡ get_or xs j x
    → r.add (f x) (r.mul b (eval_poly r (drop i (map f xs)) b)) ≡ eval_poly r (drop j (map f xs)) b
eval_turn r f xs i j x b s h e = ap (λ l. eval_poly r l b) (sym (dropped f xs i j x s h e))

-- a tuple with its count, and those after it
pub pairs_turn : {F : Type 0} (T : List (List (Tree F))) (C : List (Count (Tree F))) (i j : ℕ) (t : List (Tree F)) (c : Count (Tree F))
    → drop j T ≡ t ∷ drop i T → drop j C ≡ c ∷ drop i C
    → record { tuple = t; count = c.value } ∷ pair_up (drop i T) (drop i C) ≡ pair_up (drop j T) (drop j C)
pairs_turn T C i j t c e d = ap (λ l. pair_up l (c ∷ drop i C)) (sym e) ∙ ap (pair_up (drop j T)) (sym d)

-- an item of lists of lists that are mapped twice
pub dropped_twice : {X Y Z : Type 0} (f : Y → Z) (h : X → Y) (xs : List X) (i j : ℕ) (x : X) → suc j ≡ i → j < length xs → x ≡ get_or xs j x
    → drop j (map f (map h xs)) ≡ f (h x) ∷ drop i (map f (map h xs))
dropped_twice f h xs i j x s lt e =
    let lt-2 : j < length (map h xs) = omega (arith, lt, length-map xs h) in
    dropped f (map h xs) i j (h x) s lt-2 (sym (mapped_item h xs j x (h x) lt e))

-- one more fraction in the sum
pub sum_turn : {F : Type 0} (f : Ring F) (i : ℕ) → sum (sum_tree f i) (column_tree false (i + 1)) ≡ sum_tree f (i + 1)
sum_turn f i = let e : suc i ≡ i + 1 = omega arith in
    ap (λ k. sum (sum_tree f i) (column_tree false k)) (sym e) ∙ ap (sum_tree f) e

-- one more lookup
pub fractions_turn : {F : Type 0} (f : Ring F) (n i k : ℕ) (ls : List (LookupData F)) (l : LookupData F) → i < length ls → get_or ls i l ≡ l → n + i ≡ k
    → fraction_trees f n (take i ls) ++ fraction_tree f k l ∷ [] ≡ fraction_trees f n (take (i + 1) ls)
fractions_turn f n i k [] l h e q = absurd (omega (arith, h))
fractions_turn f n zero k (x ∷ xs) l h e q =
    let one : suc zero ≡ zero + 1 = omega arith in
    let at : k ≡ n = omega (arith, q) in
    ap (λ j. fraction_tree f j l ∷ []) at ∙ ap (λ y. fraction_tree f n y ∷ []) (sym e) ∙ ap (λ j. fraction_trees f n (take j (x ∷ xs))) one
fractions_turn f n (suc i) k (x ∷ xs) l h e q =
    let more : suc (i + 1) ≡ suc i + 1 = omega arith in
    ap (λ ts. fraction_tree f n x ∷ ts) (fractions_turn f (suc n) i k xs l (omega (arith, h)) e (omega (arith, q)))
    ∙ ap (λ j. fraction_trees f n (take j (x ∷ xs))) more

-- the first trees are those of the first lookups
pub fractions_front : {F : Type 0} (f : Ring F) (n i : ℕ) (ls : List (LookupData F)) → fraction_trees f n (take i ls) ≡ take i (fraction_trees f n ls)
fractions_front f n zero ls = refl
fractions_front f n (suc i) [] = refl
fractions_front f n (suc i) (l ∷ ls) = ap (λ ts. fraction_tree f n l ∷ ts) (fractions_front f (suc n) i ls)

-- the asserted trees of lookups, of which there is one at least
pub lookup_trees_are : {F : Type 0} (f : Ring F) (ls : List (LookupData F)) (n : ℕ) → 0 < length ls → length ls ≡ n
    → map over_extension (fraction_trees f 0 ls) ++ map over_extension (running_trees f n) ≡ map over_extension (lookup_trees f ls)
lookup_trees_are f [] n h e = absurd (omega (arith, h))
lookup_trees_are f (l ∷ ls) n h e =
    ap (λ k. map over_extension (fraction_trees f 0 (l ∷ ls)) ++ map over_extension (running_trees f k)) (sym e)
    ∙ sym (map-append over_extension (fraction_trees f 0 (l ∷ ls)) (running_trees f (length (l ∷ ls))))

-- what isn't empty
pub some_item : (n : ℕ) → false ≡ (n == 0) → 0 < n
some_item zero e = absurd (cc e)
some_item (suc n) e = omega arith
