-- Images of lists.
use Rattle.std.proofs.Common.{◌≡◌, ◌<◌, List, length, map, sym, subst, arith}
use Rattle.std.specs.Prelude.{All}
use Rattle.std.proofs.lemmas.List.{get_or-map, length-map}

-- what holds of each image holds of each item's image
pub all_of_map : {X Y : Type 0} (Q : Y → Type 0) (f : X → Y) (xs : List X) (ys : List Y) → map f xs ≡ ys → All Q ys → All (λ x. Q (f x)) xs
all_of_map {Y = Y} Q f xs ys e h = λ k d lt.
    let P : List Y → Type 0 = λ l. All Q l in
    let there : k < length (map f xs) = omega (arith, length-map xs f, lt) in
    subst Q (get_or-map f xs k d (f d) lt) (subst P (sym e) h k (f d) there)
