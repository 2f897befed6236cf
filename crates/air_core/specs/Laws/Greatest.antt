-- The greatest of some numbers.
use Rattle.std.proofs.Common.{◌≡◌, ℕ, zero, suc, ◌+◌, ◌<◌, ◌≤◌, List, [], ◌∷◌, ◌++◌, length, map, take, get_or, max, refl, sym, ◌∙◌, ap, arith}
use Rattle.std.specs.Prelude.{All}
use Rattle.std.proofs.lemmas.List.{map-append, take_more}
use Rattle.std.proofs.lemmas.List.Elements.{All-head, All-tail}
use Rattle.air_core.specs.Degree.{greatest}

-- the greatest number of a list, list after list
pub greatest_append : (n : ℕ) (xs ys : List ℕ) → greatest n (xs ++ ys) ≡ greatest (greatest n xs) ys
greatest_append n [] ys = refl
greatest_append n (x ∷ xs) ys = greatest_append (max n x) xs ys

-- what bounds the greatest of some numbers bounds each of them, and the other way round
pub first_below_greatest : (a : ℕ) (xs : List ℕ) (b : ℕ) → greatest a xs ≤ b → a ≤ b
first_below_greatest a [] b h = h
first_below_greatest a (x ∷ xs) b h = let m = first_below_greatest (max a x) xs b h in omega (arith, m)

pub all_below_greatest : (a : ℕ) (xs : List ℕ) (b : ℕ) → greatest a xs ≤ b → All (λ x. x ≤ b) xs
all_below_greatest a [] b h k d l = absurd (omega (arith, l))
all_below_greatest a (x ∷ xs) b h zero d l = let m = first_below_greatest (max a x) xs b h in omega (arith, m)
all_below_greatest a (x ∷ xs) b h (suc k) d l = all_below_greatest (max a x) xs b h k d (omega (arith, l))

pub greatest_below : (a : ℕ) (xs : List ℕ) (b : ℕ) → a ≤ b → All (λ x. x ≤ b) xs → greatest a xs ≤ b
greatest_below a [] b h all = h
greatest_below a (x ∷ xs) b h all =
    let m = All-head (λ y. y ≤ b) x xs all in
    greatest_below (max a x) xs b (omega (arith, h, m)) (All-tail (λ y. y ≤ b) x xs all)

pub greatest_more : (n : ℕ) (xs : List ℕ) (x d : ℕ) → d ≡ greatest n xs → max d x ≡ greatest n (xs ++ x ∷ [])
greatest_more n xs x d e = ap (λ k. max k x) e ∙ sym (greatest_append n xs (x ∷ []))

-- so with the degrees of the first trees of a list
pub greatest_next : {F T : Type 0} (tree : F → T) (degree : T → ℕ) (start d i : ℕ) (xs : List F) (x : F) → i < length xs → x ≡ get_or xs i x
    → d ≡ greatest start (map degree (map tree (take i xs))) → max d (degree (tree x)) ≡ greatest start (map degree (map tree (take (i + 1) xs)))
greatest_next {F = F} {T = T} tree degree start d i xs x l is h =
    let more : take (i + 1) xs ≡ take i xs ++ x ∷ [] = take_more xs i x l ∙ ap (λ (y : F). take i xs ++ y ∷ []) (sym is) in
    let split : map degree (map tree (take i xs ++ x ∷ [])) ≡ map degree (map tree (take i xs)) ++ degree (tree x) ∷ [] =
    ap (λ (ts : List T). map degree ts) (map-append tree (take i xs) (x ∷ [])) ∙ map-append degree (map tree (take i xs)) (tree x ∷ []) in
    greatest_more start (map degree (map tree (take i xs))) (degree (tree x)) d h
    ∙ ap (λ ks. greatest start ks) (sym split)
    ∙ ap (λ (ys : List F). greatest start (map degree (map tree ys))) (sym more)

-- a maximum that was computed in two steps
pub joined : (a b c d e : ℕ) → a ≡ max b c → c ≡ d → max b d ≡ e → a ≡ e
joined a b c d e h k q = omega (arith, h, k, q)
