-- Turns of loops that append to a list.
use Rattle.std.proofs.Common.{◌≡◌, ℕ, ◌+◌, ◌<◌, List, [], ◌∷◌, ◌++◌, length, get_or, map, drop, sym, ◌∙◌, ap, subst, arith, append_assoc}
use Rattle.std.specs.Prelude.{All}
use Rattle.std.proofs.lemmas.List.{append-nil, drop_more, get_or-map, length-map}

-- an item of a list that is mapped
pub mapped : {X Y : Type 0} (f : X → Y) (xs : List X) (i : ℕ) (x : X) → i < length xs → x ≡ get_or xs i x → get_or (map f xs) i (f x) ≡ f x
mapped f xs i x h e = get_or-map f xs i x (f x) h ∙ ap f (sym e)

-- what holds of each image holds of an item's
pub at_item : {X Y : Type 0} (P : Y → Type 0) (f : X → Y) (xs : List X) (i : ℕ) (x : X) → i < length xs → x ≡ get_or xs i x → All P (map f xs) → P (f x)
at_item P f xs i x h e all =
    let within : i < length (map f xs) = omega (arith, h, length-map xs f) in
    subst P (mapped f xs i x h e) (all i (f x) within)

-- an item, and those after it
pub dropped : {X Y : Type 0} (f : X → Y) (xs : List X) (i : ℕ) (x : X) → i < length xs → x ≡ get_or xs i x → drop i (map f xs) ≡ f x ∷ drop (i + 1) (map f xs)
dropped f xs i x h e =
    let within : i < length (map f xs) = omega (arith, h, length-map xs f) in
    drop_more (map f xs) i (f x) within ∙ ap (λ y. y ∷ drop (i + 1) (map f xs)) (mapped f xs i x h e)

pub dropped_twice : {X Y Z : Type 0} (f : Y → Z) (g : X → Y) (xs : List X) (i : ℕ) (x : X) → i < length xs → x ≡ get_or xs i x
    → drop i (map f (map g xs)) ≡ f (g x) ∷ drop (i + 1) (map f (map g xs))
dropped_twice f g xs i x h e =
    let within : i < length (map g xs) = omega (arith, h, length-map xs g) in
    dropped f (map g xs) i (g x) within (sym (mapped g xs i x h e))

-- some of what is left to append is appended
pub moved : {X : Type 0} (done rest whole more xs new : List X) → done ++ rest ≡ whole → rest ≡ xs ++ more → new ≡ done ++ xs → new ++ more ≡ whole
moved done rest whole more xs new h r n = ap (λ l. l ++ more) n ∙ append_assoc done xs more ∙ ap (λ l. done ++ l) (sym r) ∙ h

-- nothing is left
pub ended : {X : Type 0} (done rest whole : List X) → done ++ rest ≡ whole → rest ≡ [] → done ≡ whole
ended done rest whole h r = sym (append-nil done) ∙ ap (λ l. done ++ l) (sym r) ∙ h
