-- The places of a recording's constraints by kinds: each assertion's place stands once in one of both lists.
use Rattle.std.proofs.Common.{◌≡◌, ℕ, zero, suc, ◌+◌, ◌-◌, ◌<◌, ◌≤◌, ◌==◌, ◌++◌, Bool, true, false, not, cond, List, [], ◌∷◌, length, map, filter, All, get_or, inl, inr, refl, sym, ◌∙◌, ap, zero-add, arith}
use Rattle.std.specs.List.{count_by}
use Rattle.std.proofs.lemmas.Bool.{cases_eq}
use Rattle.std.proofs.lemmas.Bool.Decides.{nat_tests}
use Rattle.std.proofs.lemmas.List.Elements.{All-append}
use Rattle.std.proofs.lemmas.List.Sums.{sum_by-append}
use Rattle.air_core.specs.declared.node.Node.{Node}
use Rattle.air_core.specs.declared.recorded.Assertion.{Assertion}
use Rattle.air_core.specs.Tree.{Tree, Asserted}
use Rattle.air_core.specs.Layout.{HasEachOnce, Ascends}
use Rattle.air_core.specs.Recording.{trees_at, asserted_tree, asserted_at, is_in, asserted_in, indices_from, is_over, trees_over, AreTheirPlaces}
use Rattle.air_core.specs.Laws.Recording.{indices-below}

-- how often a place is listed
abbrev pub listed : ℕ → List ℕ → ℕ
listed i is = count_by (λ j. j == i) is

-- once more where it is the first
pub listed_more : (i k : ℕ) (is : List ℕ) → listed i (k ∷ is) ≡ cond {A = ℕ} (k == i) 1 0 + listed i is
listed_more i k is = sum_by-append (λ j. cond {A = ℕ} (j == i) 1 0) (k ∷ []) is ∙ ap (λ n. n + listed i is) (zero-add (cond {A = ℕ} (k == i) 1 0))

chosen_none : (b : Bool) (i k : ℕ) (is : List ℕ) → i < k → listed i is ≡ 0 → listed i (cond b (k ∷ is) is) ≡ 0
chosen_none true i k is h e = let no : cond {A = ℕ} (k == i) 1 0 ≡ 0 = grind (arith, nat_tests) in omega (arith, no, e, listed_more i k is)
chosen_none false i k is h e = e

-- no place before the first is listed
none_before : (extension : Bool) (i k : ℕ) (xs : List Assertion) → i < k → listed i (indices_from extension k xs) ≡ 0
unfolding indices_from
none_before extension i k [] h = refl
none_before extension i k (x ∷ xs) h =
    chosen_none (is_in extension x) i k (indices_from extension (suc k) xs) h (none_before extension i (suc k) xs (omega (arith, h)))

chosen_once : (b : Bool) (i k : ℕ) (is js : List ℕ)
    → listed i (cond (cond b false true) (k ∷ is) is) + listed i (cond (cond b true false) (k ∷ js) js) ≡ cond {A = ℕ} (k == i) 1 0 + (listed i is + listed i js)
chosen_once true i k is js =
    let moved : listed i is + listed i (k ∷ js) ≡ cond {A = ℕ} (k == i) 1 0 + (listed i is + listed i js) = omega (arith, listed_more i k js) in moved
chosen_once false i k is js =
    let moved : listed i (k ∷ is) + listed i js ≡ cond {A = ℕ} (k == i) 1 0 + (listed i is + listed i js) = omega (arith, listed_more i k is) in moved

-- each place is listed once, in one of both lists
listed_once : (i k : ℕ) (xs : List Assertion) → k ≤ i → i < k + length xs → listed i (indices_from false k xs) + listed i (indices_from true k xs) ≡ 1
unfolding indices_from
listed_once i k [] h l = absurd (omega (arith, h, l))
listed_once i k (x ∷ xs) h l =
    let both = chosen_once x.in_extension i k (indices_from false (suc k) xs) (indices_from true (suc k) xs) in
    elim (cases_eq k i) [
      | inl e ↦
          let yes : cond {A = ℕ} (k == i) 1 0 ≡ 1 = grind (arith, nat_tests) in
          let base = none_before false i (suc k) xs (omega (arith, e)) in
          let extension = none_before true i (suc k) xs (omega (arith, e)) in
          omega (arith, both, yes, base, extension)
      | inr e ↦
          let no : cond {A = ℕ} (k == i) 1 0 ≡ 0 = grind (arith, nat_tests) in
          let rest = listed_once i (suc k) xs (omega (arith, h, e)) (omega (arith, l)) in
          omega (arith, both, no, rest)
    ]

pub lists_once : (xs : List Assertion) → HasEachOnce (length xs) (indices_from false 0 xs ++ indices_from true 0 xs)
lists_once xs =
    let base = indices_from false 0 xs in
    let extension = indices_from true 0 xs in
    record {
      below = All-append (λ i. i < length xs) base extension (indices-below false xs) (indices-below true xs);
      once = λ i l.
          let apart : listed i (base ++ extension) ≡ listed i base + listed i extension = sum_by-append (λ j. cond (j == i) 1 0) base extension in
          let one = listed_once i 0 xs (omega arith) (omega (arith, l)) in
          omega (arith, apart, one);
    }

chosen_all : (P : ℕ → Type 0) (b : Bool) (k : ℕ) (is : List ℕ) → (b ≡ true → P k) → All P is → All P (cond b (k ∷ is) is)
chosen_all P true k is h a zero d l = h refl
chosen_all P true k is h a (suc j) d l = a j d (omega (arith, l))
chosen_all P false k is h a j d l = a j d l

-- an assertion that was asked for was made over that field
asked_over : (extension over : Bool) → cond over extension (not extension) ≡ true → over ≡ extension
asked_over true true h = refl
asked_over true false h = h
asked_over false true h = sym h
asked_over false false h = refl

-- what is known of a place in a list that begins with the place k: it isn't before k, and its assertion's field
abbrev IsFrom : Bool → ℕ → List Assertion → ℕ → Type 0
IsFrom extension k xs i = (k ≤ i) × ((d : Assertion) → (get_or xs (i - k) d).in_extension ≡ extension)

from_next : (extension : Bool) (k : ℕ) (x : Assertion) (xs : List Assertion) (is : List ℕ) → All (IsFrom extension (suc k) xs) is → All (IsFrom extension k (x ∷ xs)) is
from_next extension k x xs is a j d l =
    let i = get_or is j d in
    let found = a j d l in
    let at : i - k ≡ suc (i - suc k) = omega (arith, found.0) in
    (omega (arith, found.0), λ e. ap (λ m. (get_or (x ∷ xs) m e).in_extension) at ∙ found.1 e)

all_from : (extension : Bool) (k : ℕ) (xs : List Assertion) → All (IsFrom extension k xs) (indices_from extension k xs)
unfolding indices_from
all_from extension k [] j d l = absurd (omega (arith, l))
all_from extension k (x ∷ xs) j d l =
    let rest = indices_from extension (suc k) xs in
    let first : k - k ≡ 0 = omega arith in
    chosen_all (IsFrom extension k (x ∷ xs)) (is_in extension x) k rest
    (λ asked. (omega arith, λ e. ap (λ m. (get_or (x ∷ xs) m e).in_extension) first ∙ asked_over extension x.in_extension asked))
    (from_next extension k x xs rest (all_from extension (suc k) xs)) j d l

chosen_ascends : (b : Bool) (k : ℕ) (is : List ℕ) → All (λ i. k < i) is → Ascends is → Ascends (cond b (k ∷ is) is)
chosen_ascends true k is a h i zero m l = absurd (omega (arith, m))
chosen_ascends true k is a h zero (suc j) m l = a j 0 (omega (arith, l))
chosen_ascends true k is a h (suc i) (suc j) m l = h i j (omega (arith, m)) (omega (arith, l))
chosen_ascends false k is a h i j m l = h i j m l

ascends_from : (extension : Bool) (k : ℕ) (xs : List Assertion) → Ascends (indices_from extension k xs)
unfolding indices_from
ascends_from extension k [] i j m l = absurd (omega (arith, l))
ascends_from extension k (x ∷ xs) i j m l =
    let rest = indices_from extension (suc k) xs in
    chosen_ascends (is_in extension x) k rest (λ j d l. (all_from extension (suc k) xs j d l).0) (ascends_from extension (suc k) xs) i j m l

pub their_places : (extension : Bool) (xs : List Assertion) → AreTheirPlaces extension xs (indices_from extension 0 xs)
their_places extension xs = record {
  ascending = ascends_from extension 0 xs;
  own = λ j d l e.
      let at : get_or (indices_from extension 0 xs) j d - 0 ≡ get_or (indices_from extension 0 xs) j d = omega arith in
      ap (λ m. (get_or xs m e).in_extension) (sym at) ∙ (all_from extension 0 xs j d l).1 e;
}

chosen_trees : {F : Type 0} (ns : List (Node F)) (b : Bool) (x : Assertion) (xs : List Assertion) (ts : List (Asserted F)) → trees_at ns xs ≡ map (λ a. a.tree) ts
    → trees_at ns (cond b (x ∷ xs) xs) ≡ map (λ a. a.tree) (cond b (asserted_tree ns x ∷ ts) ts)
chosen_trees {F = F} ns true x xs ts e = ap (λ (us : List (Tree F)). (asserted_tree ns x).tree ∷ us) e
chosen_trees ns false x xs ts e = e

-- the trees of the assertions over a field are the trees that were asserted over it
pub trees_over_is : {F : Type 0} (ns : List (Node F)) (extension : Bool) (xs : List Assertion) → trees_at ns (asserted_in extension xs) ≡ trees_over extension (asserted_at ns xs)
trees_over_is ns extension [] = refl
trees_over_is ns extension (x ∷ xs) =
    chosen_trees ns (is_in extension x) x (asserted_in extension xs) (filter (is_over extension) (asserted_at ns xs)) (trees_over_is ns extension xs)
