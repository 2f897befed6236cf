-- Items of lists, by their places.
use Rattle.std.proofs.Common.{◌≡◌, ℕ, ◌<◌, List, length, map, get_or, ◌∙◌, ap, sym}
use Rattle.std.proofs.lemmas.List.{get_or-map}

-- the image of the item at a place
pub item_of_map : {X Y : Type 0} (f : X → Y) (xs : List X) (i : ℕ) (x : X) (d : Y) → i < length xs → x ≡ get_or xs i x → get_or (map f xs) i d ≡ f x
item_of_map f xs i x d b e = get_or-map f xs i x d b ∙ ap f (sym e)
