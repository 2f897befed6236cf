-- Items of lists, one after another, and what is moved along equations.
use Rattle.std.proofs.Common.{◌≡◌, ℕ, zero, suc, ◌+◌, ◌<◌, ◌≤◌, List, [], ◌∷◌, length, get_or, map, inl, inr, sym, ◌∙◌, ap, subst, arith}
use Rattle.std.specs.Prelude.{All}
use Rattle.std.proofs.lemmas.Bool.{cases_lt}
use Rattle.std.proofs.lemmas.List.{get_or-map, get_or_default, length-map}

-- one more of which it holds
pub one_more : {X : Type 0} (P : X → Type 0) (xs : List X) (i : ℕ) (x : X) → i < length xs → x ≡ get_or xs i x → ((k : ℕ) (d : X) → k < i → P (get_or xs k d)) → P x
    → (k : ℕ) (d : X) → k < i + 1 → P (get_or xs k d)
one_more P xs i x h e all p k d lt = elim (cases_lt k i) [
  | inl less ↦ all k d less
  | inr ge ↦
      let at : i ≡ k = omega (arith, ge, lt) in
      subst (λ j. P (get_or xs j d)) at (subst P (e ∙ get_or_default xs i x d h) p)
]

-- what holds of all holds of one
pub at_item : {X : Type 0} (P : X → Type 0) (xs : List X) (i : ℕ) (x : X) → i < length xs → x ≡ get_or xs i x → All P xs → P x
at_item P xs i x h e all = subst P (sym e) (all i x h)

-- what holds of each image holds of the list of images, and what holds of these of each
pub all_mapped : {X Y : Type 0} (P : Y → Type 0) (f : X → Y) (xs : List X) → All (λ x. P (f x)) xs → All P (map f xs)
all_mapped P f [] h k d l = absurd (omega (arith, l))
all_mapped P f (x ∷ xs) h zero d l = h zero x (omega arith)
all_mapped P f (x ∷ xs) h (suc k) d l = all_mapped P f xs (λ i u b. h (suc i) u (omega (arith, b))) k d (omega (arith, l))

pub all_of_mapped : {X Y : Type 0} (P : Y → Type 0) (f : X → Y) (xs : List X) → All P (map f xs) → All (λ x. P (f x)) xs
all_of_mapped P f xs h k d l = subst P (get_or-map f xs k d (f d) l) (h k (f d) (let n = length-map xs f in omega (arith, l, n)))

-- three equations at once
pub moved : {X Y Z : Type 0} (Q : X → Y → Z → Type 0) (a b : X) (m n : Y) (p q : Z) → a ≡ b → m ≡ n → p ≡ q → Q a m p → Q b n q
moved Q a b m n p q e f g h = subst (λ x. Q x n q) e (subst (λ y. Q a y q) f (subst (λ z. Q a m z) g h))

-- equal sums are at most the same
pub sum_moved : (a b k l t u : ℕ) → a ≡ b → k ≡ l → t ≡ u → (a + k ≤ t → b + l ≤ u) × (b + l ≤ u → a + k ≤ t)
sum_moved a b k l t u e f m = ((λ h. omega (arith, e, f, m, h)), λ h. omega (arith, e, f, m, h))

-- what is a value at one of two equal things is the value at the other
pub value_moved : {L : Type 0} (f : L → ℕ) (a b : L) → a ≡ b → (k : ℕ) → k ≡ f a → k ≡ f b
value_moved f a b e k h = h ∙ ap f e
