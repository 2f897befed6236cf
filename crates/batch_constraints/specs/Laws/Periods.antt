-- Periodic columns that a tree reads, and what holds of all images.
use Rattle.std.proofs.Common.{◌≡◌, ℕ, ◌<◌, List, length, map, All, get_or, sym, subst, arith}
use Rattle.std.proofs.lemmas.List.{length-map, get_or-map}
use Rattle.air_core.specs.Degree.{HasPeriod}
use Rattle.air_core.specs.Shape.{ReadsIn}
use Rattle.air_core.specs.Tree.{Tree}

-- what holds of all images holds of that of an item
pub at_item : {X Y : Type 0} (P : Y → Type 0) (f : X → Y) (xs : List X) (i : ℕ) (x : X) → i < length xs → x ≡ get_or xs i x → All P (map f xs) → P (f x)
at_item {X = X} P f xs i x h e all =
    let lt : i < length (map f xs) = omega (arith, h, length-map xs f) in
    let Q : X → Type 0 = λ y. P (f y) in
    subst Q (sym e) (subst P (get_or-map f xs i x (f x) h) (all i (f x) lt))

-- each column that the tree reads has a period
abbrev pub IsPeriodic : {F : Type 0} → List ℕ → Tree F → Type 0
IsPeriodic periods t = ReadsIn (HasPeriod periods) (λ _. Unit {0}) t
