-- Of asserted constraints, those over the base field and those over the extension, and their places.
use Rattle.std.proofs.Common.{◌≡◌, ℕ, suc, ◌+◌, List, [], ◌∷◌, ◌++◌, Bool, length, map, get_or, drop, cond, not, refl, sym, ◌∙◌, ap, arith, true, false}
use Rattle.std.specs.Prelude.{Result, Ok, Err, IfOk}
use Rattle.p3_field.specs.Poly.{tabulate}
use Rattle.p3_field.specs.Laws.Tabulate.{tabulate_same}
use Rattle.air_core.specs.declared.node.Node.{Node}
use Rattle.air_core.specs.declared.recorded.Assertion.{Assertion}
use Rattle.air_core.specs.Tree.{Tree, Asserted, over_base, over_extension}
use Rattle.air_core.specs.Layout.{Places}
use Rattle.air_core.specs.Recording.{asserted_at, asserted_tree, indices_from, trees_over}
use Rattle.batch_constraints.specs.BatchTrees.{places_of}

-- of trees over the base field and others over the extension after them, each kind
pub none_over_base : {F : Type 0} (us : List (Tree F)) → trees_over false (map over_extension us) ≡ []
none_over_base [] = refl
none_over_base (u ∷ us) = none_over_base us

pub all_over_extension : {F : Type 0} (us : List (Tree F)) → trees_over true (map over_extension us) ≡ us
all_over_extension [] = refl
all_over_extension {F = F} (u ∷ us) = ap (λ (vs : List (Tree F)). u ∷ vs) (all_over_extension us)

pub over_base_are : {F : Type 0} (ts us : List (Tree F)) → trees_over false (map over_base ts ++ map over_extension us) ≡ ts
over_base_are [] us = none_over_base us
over_base_are {F = F} (t ∷ ts) us = ap (λ (vs : List (Tree F)). t ∷ vs) (over_base_are ts us)

pub over_extension_are : {F : Type 0} (ts us : List (Tree F)) → trees_over true (map over_base ts ++ map over_extension us) ≡ us
over_extension_are [] us = all_over_extension us
over_extension_are (t ∷ ts) us = over_extension_are ts us

-- the first of two equal lists' items, and the others
kind_of_first : {F : Type 0} (a b : Asserted F) (xs ys : List (Asserted F)) → a ∷ xs ≡ b ∷ ys → a.in_extension ≡ b.in_extension
kind_of_first {F = F} a b xs ys e = ap (λ (l : List (Asserted F)). (get_or l 0 a).in_extension) e

others : {F : Type 0} (a b : Asserted F) (xs ys : List (Asserted F)) → a ∷ xs ≡ b ∷ ys → xs ≡ ys
others {F = F} a b xs ys e = ap (λ (l : List (Asserted F)). drop 1 l) e

no_first : {F : Type 0} (b : Asserted F) (ys : List (Asserted F)) → [] ≡ b ∷ ys → ⊥
no_first {F = F} b ys e = let h = ap (λ (l : List (Asserted F)). length l) e in omega (arith, h)

-- a place that is listed, and one that isn't
listed : (extension : Bool) (k : ℕ) (rest : List ℕ) → cond (cond extension extension (not extension)) (k ∷ rest) rest ≡ k ∷ rest
listed true k rest = refl
listed false k rest = refl

unlisted : (extension : Bool) (k : ℕ) (rest : List ℕ) → cond (cond (not extension) extension (not extension)) (k ∷ rest) rest ≡ rest
unlisted true k rest = refl
unlisted false k rest = refl

first_listed : {F : Type 0} (ns : List (Node F)) (extension : Bool) (k : ℕ) (x : Assertion) (xs : List Assertion) (b : Asserted F) (bs : List (Asserted F))
    → b.in_extension ≡ extension → asserted_at ns (x ∷ xs) ≡ b ∷ bs → indices_from extension k (x ∷ xs) ≡ k ∷ indices_from extension (suc k) xs
unfolding indices_from
first_listed ns extension k x xs b bs h e =
    let rest = indices_from extension (suc k) xs in
    ap (λ (own : Bool). cond (cond own extension (not extension)) (k ∷ rest) rest) (kind_of_first (asserted_tree ns x) b (asserted_at ns xs) bs e ∙ h)
    ∙ listed extension k rest

first_unlisted : {F : Type 0} (ns : List (Node F)) (extension : Bool) (k : ℕ) (x : Assertion) (xs : List Assertion) (b : Asserted F) (bs : List (Asserted F))
    → b.in_extension ≡ not extension → asserted_at ns (x ∷ xs) ≡ b ∷ bs → indices_from extension k (x ∷ xs) ≡ indices_from extension (suc k) xs
unfolding indices_from
first_unlisted ns extension k x xs b bs h e =
    let rest = indices_from extension (suc k) xs in
    ap (λ (own : Bool). cond (cond own extension (not extension)) (k ∷ rest) rest) (kind_of_first (asserted_tree ns x) b (asserted_at ns xs) bs e ∙ h)
    ∙ unlisted extension k rest

no_places : (extension : Bool) (k : ℕ) → indices_from extension k [] ≡ []
unfolding indices_from
no_places extension k = refl

-- the numbers from k on
one_more : (k j n : ℕ) → j ≡ suc k → k ∷ tabulate n (λ i. j + i) ≡ tabulate (suc n) (λ i. k + i)
one_more k j n e =
    ap (λ m. m ∷ tabulate n (λ i. j + i)) (omega arith)
    ∙ ap (λ l. (k + 0) ∷ l) (tabulate_same n (λ i. j + i) (λ i. k + suc i) (λ i lt. omega (arith, e)))

same_start : (k j n : ℕ) → j ≡ k → tabulate n (λ i. j + i) ≡ tabulate n (λ i. k + i)
same_start k j n e = tabulate_same n (λ i. j + i) (λ i. k + i) (λ i lt. omega (arith, e))

-- where trees over the base field come first and others over the extension after them, each kind's places follow each other
pub base_places : {F : Type 0} (ns : List (Node F)) (k : ℕ) (xs : List Assertion) (ts us : List (Tree F)) → asserted_at ns xs ≡ map over_base ts ++ map over_extension us
    → indices_from false k xs ≡ tabulate (length ts) (λ i. k + i)
base_places ns k [] [] us e = no_places false k
base_places ns k [] (t ∷ ts) us e = absurd (no_first (over_base t) (map over_base ts ++ map over_extension us) e)
base_places ns k (x ∷ xs) [] [] e = absurd (no_first (asserted_tree ns x) (asserted_at ns xs) (sym e))
base_places ns k (x ∷ xs) [] (u ∷ us) e =
    let rest = others (asserted_tree ns x) (over_extension u) (asserted_at ns xs) (map over_extension us) e in
    first_unlisted ns false k x xs (over_extension u) (map over_extension us) refl e ∙ base_places ns (suc k) xs [] us rest
base_places ns k (x ∷ xs) (t ∷ ts) us e =
    let bs = map over_base ts ++ map over_extension us in
    let rest = others (asserted_tree ns x) (over_base t) (asserted_at ns xs) bs e in
    first_listed ns false k x xs (over_base t) bs refl e ∙ ap (λ l. k ∷ l) (base_places ns (suc k) xs ts us rest) ∙ one_more k (suc k) (length ts) refl

pub extension_places : {F : Type 0} (ns : List (Node F)) (k : ℕ) (xs : List Assertion) (ts us : List (Tree F)) → asserted_at ns xs ≡ map over_base ts ++ map over_extension us
    → indices_from true k xs ≡ tabulate (length us) (λ i. k + length ts + i)
extension_places ns k [] [] [] e = no_places true k
extension_places ns k [] [] (u ∷ us) e = absurd (no_first (over_extension u) (map over_extension us) e)
extension_places ns k [] (t ∷ ts) us e = absurd (no_first (over_base t) (map over_base ts ++ map over_extension us) e)
extension_places ns k (x ∷ xs) [] [] e = absurd (no_first (asserted_tree ns x) (asserted_at ns xs) (sym e))
extension_places ns k (x ∷ xs) [] (u ∷ us) e =
    let rest = others (asserted_tree ns x) (over_extension u) (asserted_at ns xs) (map over_extension us) e in
    first_listed ns true k x xs (over_extension u) (map over_extension us) refl e ∙ ap (λ l. k ∷ l) (extension_places ns (suc k) xs [] us rest)
    ∙ ap (λ m. m ∷ tabulate (length us) (λ i. suc k + 0 + i)) (omega arith) ∙ one_more (k + 0) (suc k + 0) (length us) (omega arith)
extension_places ns k (x ∷ xs) (t ∷ ts) us e =
    let bs = map over_base ts ++ map over_extension us in
    let rest = others (asserted_tree ns x) (over_base t) (asserted_at ns xs) bs e in
    first_unlisted ns true k x xs (over_base t) bs refl e ∙ extension_places ns (suc k) xs ts us rest
    ∙ same_start (k + length (t ∷ ts)) (suc k + length ts) (length us) (omega arith)

-- so these are all places
pub places_are : {F : Type 0} (ns : List (Node F)) (xs : List Assertion) (ts us : List (Tree F)) (p : Places) → asserted_at ns xs ≡ map over_base ts ++ map over_extension us
    → p.base_indices ≡ indices_from false 0 xs → p.ext_indices ≡ indices_from true 0 xs → p ≡ places_of (length ts) (length us)
places_are ns xs ts us p e base extension =
    let n = length ts in
    let first : p.base_indices ≡ tabulate n (λ i. i) = base ∙ base_places ns 0 xs ts us e ∙ tabulate_same n (λ i. 0 + i) (λ i. i) (λ i lt. omega arith) in
    let second : p.ext_indices ≡ tabulate (length us) (λ i. n + i) = extension ∙ extension_places ns 0 xs ts us e ∙ same_start n (0 + n) (length us) (omega arith) in
    ap (λ is. record { base_indices = is; ext_indices = p.ext_indices }) first ∙ ap (λ is. record { base_indices = tabulate n (λ i. i); ext_indices = is }) second

-- and so where a call answers them
pub places_in : {F E : Type 0} (r : Result Places E) (ns : List (Node F)) (xs : List Assertion) (ts us : List (Tree F)) → asserted_at ns xs ≡ map over_base ts ++ map over_extension us
    → IfOk r (λ p. p.base_indices ≡ indices_from false 0 xs) → IfOk r (λ p. p.ext_indices ≡ indices_from true 0 xs) → IfOk r (λ p. p ≡ places_of (length ts) (length us))
places_in (Ok p) ns xs ts us e base extension = places_are ns xs ts us p e base extension
places_in (Err x) ns xs ts us e base extension = tt
