-- Lists of one item, and opened values as lists.
use Rattle.std.proofs.Common.{◌≡◌, ℕ, zero, suc, List, [], ◌∷◌, Some, length, map, refl, ap, sym, subst, ◌∙◌, arith, Vec}
use Rattle.std.specs.Prelude.{slice_get}
use Rattle.commit_core.specs.Periodic.{EachFrom}

pub single : {X : Type 0} (xs : List X) → length xs ≡ 1 → (x : X) × (xs ≡ x ∷ [])
single [] e = cc
single (x ∷ []) e = (x, refl)
single (x ∷ y ∷ zs) e = absurd (omega arith)

pub same_one : {X : Type 0} (x y : X) → x ∷ [] ≡ y ∷ [] → x ≡ y
same_one x y e = cc

-- a list after a map
pub one_after : {X Y : Type 0} (f : X → Y) (xs : List X) (y : Y) → map f xs ≡ y ∷ [] → (x : X) × (xs ≡ x ∷ [])
one_after f [] y e = cc
one_after f (x ∷ []) y e = (x, refl)
one_after f (x ∷ z ∷ zs) y e = cc

-- what is mapped, where there is one item
pub the_one : {X Y : Type 0} (f : X → Y) (xs : List X) (x : X) (y : Y) → map f xs ≡ y ∷ [] → xs ≡ x ∷ [] → f x ≡ y
the_one f xs x y e h = same_one (f x) y (sym (ap (map f) h) ∙ e)

pub one_pair : {X Y : Type 0} (P : X → Y → Type 0) (x : X) (y : Y) → P x y → EachFrom (x ∷ []) (y ∷ []) P
one_pair P x y p = record { count = refl; each = at }
  where
    at : (i : ℕ) (w : _) → slice_get (y ∷ []) i ≡ Some w → (v : _) → slice_get (x ∷ []) i ≡ Some v → P v w
    at zero w h v k = let a : y ≡ w = cc in let b : x ≡ v = cc in subst (λ q. P q w) b (subst (P x) a p)
    at (suc i) w h v k = cc

-- opened values as lists, level by level
abbrev pub values_in : {E A : Type 0} → Vec E A → List E
values_in v = v.items

abbrev pub matrix_in : {E A : Type 0} → Vec (Vec E A) A → List (List E)
matrix_in v = map values_in v.items

abbrev pub round_in : {E A : Type 0} → Vec (Vec (Vec E A) A) A → List (List (List E))
round_in v = map matrix_in v.items

pub innermost : {X : Type 0} (x y : List X) → ((x ∷ []) ∷ []) ∷ [] ≡ ((y ∷ []) ∷ []) ∷ [] → x ≡ y
innermost x y e = same_one x y (same_one (x ∷ []) (y ∷ []) (same_one ((x ∷ []) ∷ []) ((y ∷ []) ∷ []) e))
