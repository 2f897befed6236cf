-- Lists as a program holds them, and as a contract sees them.
use Rattle.std.proofs.Common.{◌≡◌, ℕ, ◌<◌, List, length, map, All, get_or, sym, ◌∙◌, ap, subst, arith}
use Rattle.std.proofs.lemmas.List.{get_or-map, get_or_default, length-map}
use Rattle.std.proofs.lemmas.List.Elements.{All-map}
use Rattle.commit_core.specs.Periodic.{IsPeriod}

-- what holds of each image holds of each item's image
pub all_back : {X Y : Type 0} (P : Y → Type 0) (f : X → Y) (xs : List X) → All P (map f xs) → All (λ x. P (f x)) xs
all_back P f xs h = λ k d b. subst P (get_or-map f xs k d (f d) b) (h k (f d) (omega (arith, b, length-map xs f)))

-- columns that fit, by their lengths
pub lengths_fit : {V F : Type 0} (items : V → List F) (height : ℕ) (columns : List V) (declared : List (List F)) → map items columns ≡ declared
    → All (λ c. IsPeriod height (length (items c))) columns → All (IsPeriod height) (map length declared)
lengths_fit items height columns declared e h =
    subst (λ ls. All (IsPeriod height) (map length ls)) e (All-map (IsPeriod height) length (map items columns) (All-map (λ ls. IsPeriod height (length ls)) items columns h))

-- the image of the item at a place
pub image_at : {X Y : Type 0} (f : X → Y) (xs : List X) (i : ℕ) (x : X) (d : Y) → i < length xs → x ≡ get_or xs i x → f x ≡ get_or (map f xs) i d
image_at f xs i x d b e = sym (get_or-map f xs i x d b ∙ ap f (sym e))

-- the item at a place, whatever stands past the end
pub item_at : {X : Type 0} (xs : List X) (i : ℕ) (d x : X) → i < length xs → x ≡ get_or xs i x → x ≡ get_or xs i d
item_at xs i d x b e = sym (get_or_default xs i d x b ∙ sym e)
