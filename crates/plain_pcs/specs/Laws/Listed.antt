-- Properties of each item of lists that are put together.
use Rattle.std.proofs.Common.{◌≡◌, ℕ, zero, suc, ◌<◌, List, [], ◌∷◌, Some, length, get_or, refl, sym, subst, arith}
use Rattle.std.specs.Prelude.{slice_get, zip, All, Option, IfSome}
use Rattle.std.proofs.lemmas.Option.{slice_get_within, slice_get-get_or, get_or_from_slice_get}
use Rattle.p3_field.specs.Checks.{IsFirstWithout}

-- a place in a list has an item
pub item_at : {X : Type 0} (xs : List X) (k : ℕ) → k < length xs → (x : X) × (slice_get xs k ≡ Some x)
item_at [] k h = absurd (omega arith)
item_at (x ∷ xs) zero h = (x, refl)
item_at (x ∷ xs) (suc k) h = item_at xs k (omega arith)

-- what each item has at its place
pub all_items : {X : Type 0} (P : X → Type 0) (xs : List X) → ((k : ℕ) (x : X) → slice_get xs k ≡ Some x → P x) → All P xs
all_items P xs f k d h = f k (get_or xs k d) (slice_get-get_or xs k d h)

pub item_has : {X : Type 0} (P : X → Type 0) (xs : List X) (k : ℕ) (x : X) → All P xs → slice_get xs k ≡ Some x → P x
item_has P xs k x a e = subst P (get_or_from_slice_get xs k x x e) (a k x (slice_get_within xs k x e))

-- items at the same place are a pair at this place
pub zip_item : {X Y : Type 0} (xs : List X) (ys : List Y) (k : ℕ) (x : X) (y : Y) → slice_get xs k ≡ Some x → slice_get ys k ≡ Some y → slice_get (zip xs ys) k ≡ Some (x, y)
zip_item [] ys k x y a b = cc
zip_item (v ∷ xs) [] k x y a b = cc
zip_item (v ∷ xs) (w ∷ ys) zero x y a b = cc
zip_item (v ∷ xs) (w ∷ ys) (suc k) x y a b = zip_item xs ys k x y a b

-- the first item that lacks a property is there and lacks it, and each before it has it
pub lacking : {X : Type 0} (P : X → Type 0) (xs : List X) (i : ℕ) → IsFirstWithout P xs i → (x : X) × (slice_get xs i ≡ Some x) × (P x → ⊥)
lacking {X} P xs i F =
    let (x, q) = item_at xs i F.within in
    let at : Option X → Type 0 = λ o. IfSome o P in
    (x, q, λ p. F.fails (subst at (sym q) p))

pub earlier_has : {X : Type 0} (P : X → Type 0) (xs : List X) (i j : ℕ) (x : X) → IsFirstWithout P xs i → j < i → slice_get xs j ≡ Some x → P x
earlier_has {X} P xs i j x F b q = let at : Option X → Type 0 = λ o. IfSome o P in subst at q (F.earlier j b)

-- and so it is found
pub first_lacking : {X : Type 0} (P : X → Type 0) (xs : List X) (i : ℕ) (x : X) → slice_get xs i ≡ Some x → (P x → ⊥) → ((j : ℕ) (y : X) → j < i → slice_get xs j ≡ Some y → P y)
    → IsFirstWithout P xs i
first_lacking {X} P xs i x q lacks before =
    let at : Option X → Type 0 = λ o. IfSome o P in
    let within : i < length xs = slice_get_within xs i x q in
    record {
      within = within;
      fails = λ p. lacks (subst at q p);
      earlier = λ j b.
          let (y, r) = item_at xs j (omega (arith, b, within)) in
          subst at (sym r) (before j y b r);
    }
