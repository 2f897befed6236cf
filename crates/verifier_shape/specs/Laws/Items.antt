-- Items of lists, by their places.
use Rattle.std.proofs.Common.{◌≡◌, ℕ, ◌+◌, ◌<◌, List, length, map, get_or, sym, ◌∙◌, ap, subst, inl, inr, arith}
use Rattle.std.proofs.lemmas.Bool.{cases_lt}
use Rattle.std.proofs.lemmas.List.{get_or-map, get_or_default}

-- the image of the item at a place
pub item_of_map : {X Y : Type 0} (f : X → Y) (xs : List X) (i : ℕ) (x : X) (d : Y) → i < length xs → x ≡ get_or xs i x → get_or (map f xs) i d ≡ f x
item_of_map f xs i x d b e = get_or-map f xs i x d b ∙ ap f (sym e)

-- the item at a place, whatever stands past the end
pub item_at : {X : Type 0} (xs : List X) (i : ℕ) (d x : X) → i < length xs → x ≡ get_or xs i x → get_or xs i d ≡ x
item_at xs i d x b e = get_or_default xs i d x b ∙ sym e

-- what holds of the first i items and of the next holds of one more
pub all_more : {X : Type 0} (P : X → Type 0) (xs : List X) (i : ℕ) (x : X) → i < length xs → x ≡ get_or xs i x → P x
    → ((k : ℕ) (d : X) → k < i → P (get_or xs k d)) → (k : ℕ) (d : X) → k < i + 1 → P (get_or xs k d)
all_more P xs i x b e p h k d l = elim (cases_lt k i) [
  | inl m ↦ h k d m
  | inr q ↦ let s : i ≡ k = omega arith in subst (λ n. P (get_or xs n d)) s (subst P (sym (item_at xs i d x b e)) p)
]
