-- Turns of loops that test the items of a list, one after another.
use Rattle.std.proofs.Common.{◌≡◌, ℕ, zero, suc, ◌+◌, ◌<◌, List, [], ◌∷◌, ◌++◌, length, get_or, map, take, inl, inr, refl, sym, ◌∙◌, ap, subst, arith}
use Rattle.std.specs.Prelude.{All}
use Rattle.std.proofs.lemmas.Bool.{cases_lt}
use Rattle.std.proofs.lemmas.List.{take_more, map-append, length-map}
use Rattle.std.proofs.lemmas.List.Elements.{All-push}

pub mapped_item : {X Y : Type 0} (f : X → Y) (xs : List X) (i : ℕ) (x : X) (d : Y) → i < length xs → x ≡ get_or xs i x → get_or (map f xs) i d ≡ f x
mapped_item f [] i x d h e = absurd (omega (arith, h))
mapped_item f (y ∷ ys) zero x d h e = ap f (sym e)
mapped_item f (y ∷ ys) (suc i) x d h e = mapped_item f ys i x d (omega (arith, h)) e

-- what holds of each holds of one
pub at_item : {X Y : Type 0} (f : X → Y) (P : Y → Type 0) (xs : List X) (i : ℕ) (x : X) → i < length xs → x ≡ get_or xs i x → All P (map f xs) → P (f x)
at_item f P xs i x h e all =
    let lt : i < length (map f xs) = omega (arith, h, length-map xs f) in
    subst P (mapped_item f xs i x (f x) h e) (all i (f x) lt)

-- one more of which it holds
pub one_more : {X Y : Type 0} (f : X → Y) (P : Y → Type 0) (xs : List X) (i : ℕ) (x : X) → i < length xs → x ≡ get_or xs i x
    → All P (map f (take i xs)) → P (f x) → All P (map f (take (i + 1) xs))
one_more {X = X} {Y = Y} f P xs i x h e all p =
    let taken : take (i + 1) xs ≡ take i xs ++ x ∷ [] = take_more xs i x h ∙ ap (λ (y : X). take i xs ++ y ∷ []) (sym e) in
    let Q : List Y → Type 0 = λ ys. All P ys in
    subst Q (sym (ap (map f) taken ∙ map-append f (take i xs) (x ∷ []))) (All-push P (map f (take i xs)) (f x) all p)

-- the same by places, where what is to hold goes by the place too
pub place_more : {X Y : Type 0} (f : X → Y) (P : ℕ → Y → Type 0) (xs : List X) (i : ℕ) (x : X) → i < length xs → x ≡ get_or xs i x
    → ((k : ℕ) → k < i → (d : Y) → P k (get_or (map f xs) k d)) → P i (f x) → (k : ℕ) → k < i + 1 → (d : Y) → P k (get_or (map f xs) k d)
place_more f P xs i x h e all p k lt d = elim (cases_lt k i) [
  | inl less ↦ all k less d
  | inr ge ↦
      let at : i ≡ k = omega (arith, ge, lt) in
      subst (λ j. P j (get_or (map f xs) j d)) at (subst (P i) (sym (mapped_item f xs i x d h e)) p)
]

pub at_place : {X Y : Type 0} (f : X → Y) (P : ℕ → Y → Type 0) (xs : List X) (i n : ℕ) (x : X) → i < n → i < length xs → x ≡ get_or xs i x
    → ((k : ℕ) → k < n → (d : Y) → P k (get_or (map f xs) k d)) → P i (f x)
at_place f P xs i n x lt h e all = subst (P i) (mapped_item f xs i x (f x) h e) (all i lt (f x))

pub mapped_twice : {X Y Z : Type 0} (f : Y → Z) (h : X → Y) (xs : List X) → map (λ x. f (h x)) xs ≡ map f (map h xs)
mapped_twice f h [] = refl
mapped_twice f h (x ∷ xs) = ap (λ ys. f (h x) ∷ ys) (mapped_twice f h xs)
