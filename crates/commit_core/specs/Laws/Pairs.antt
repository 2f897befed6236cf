-- Lists side by side.
use Rattle.std.proofs.Common.{◌≡◌, ℕ, zero, suc, ◌≤◌, List, [], ◌∷◌, ◌++◌, Some, length, ap, arith, refl, ◌∙◌}
use Rattle.std.specs.Prelude.{slice_get, zip}
use Rattle.commit_core.specs.Space.{EachOf}

-- pairs are as many as the items of the shorter list
pub length-zip : {X Y : Type 0} (xs : List X) (ys : List Y) → length ys ≤ length xs → length (zip xs ys) ≡ length ys
length-zip [] [] h = refl
length-zip [] (y ∷ ys) h = omega arith
length-zip (x ∷ xs) [] h = refl
length-zip (x ∷ xs) (y ∷ ys) h = let k : length ys ≤ length xs = omega arith in ap suc (length-zip xs ys k)

pub zip-nil : {X Y : Type 0} (xs : List X) → zip {K = X} {X = Y} xs [] ≡ []
zip-nil [] = refl
zip-nil (x ∷ xs) = refl

pub zip-push : {X Y : Type 0} (xs : List X) (ys : List Y) (x : X) (y : Y) → slice_get xs (length ys) ≡ Some x → zip xs (ys ++ y ∷ []) ≡ zip xs ys ++ (x, y) ∷ []
zip-push [] ys x y h = cc
zip-push {X = X} {Y = Y} (z ∷ xs) [] x y h = cc (zip-nil {X = X} {Y = Y} xs, h)
zip-push (z ∷ xs) (w ∷ ys) x y h = ap (λ l. (z, w) ∷ l) (zip-push xs ys x y h)

-- an item of the pairs is the pair of the items
pub slice_get-zip : {X Y : Type 0} (xs : List X) (ys : List Y) (i : ℕ) (e : X × Y) → slice_get (zip xs ys) i ≡ Some e → (slice_get xs i ≡ Some e.0) × (slice_get ys i ≡ Some e.1)
slice_get-zip [] ys i e h = cc
slice_get-zip (x ∷ xs) [] i e h = cc
slice_get-zip (x ∷ xs) (y ∷ ys) zero e h = (cc, cc)
slice_get-zip (x ∷ xs) (y ∷ ys) (suc i) e h = slice_get-zip xs ys i e h

pub EachOf-zip : {X Y : Type 0} (c : ℕ) (xs : List X) (ys : List Y) (P : ℕ → X → Type 0) (Q : ℕ → Y → Type 0) → EachOf c xs P → EachOf c ys Q → EachOf c (zip xs ys) (λ i e. P i e.0 × Q i e.1)
EachOf-zip c xs ys P Q p q = record {
  count = let h : length ys ≤ length xs = omega (arith, p.count, q.count) in length-zip xs ys h ∙ q.count;
  each = λ i e h. let (a, b) = slice_get-zip xs ys i e h in (p.each i e.0 a, q.each i e.1 b);
}
