-- Lists of expressions that represent lists of trees.
use Rattle.std.proofs.Common.{ℕ, ◌<◌, zero, suc, List, [], ◌∷◌, length, get_or, arith}
use Rattle.std.specs.Prelude.{Result, Ok, Err, OnErr}
use Rattle.air_core.specs.Tree.{Represent}

-- no expression represents no tree
pub represent-none : {E T : Type 0} (P : E → T → Type 0) → Represent P [] []
represent-none P = record { long = omega arith; each = λ k d u l. absurd (omega (arith, l)) }

represent-each : {E T : Type 0} (P : E → T → Type 0) (x : E) (t : T) (xs : List E) (ts : List T) → P x t → Represent P xs ts
    → (i : ℕ) (d : E) (u : T) → i < length (x ∷ xs) → P (get_or (x ∷ xs) i d) (get_or (t ∷ ts) i u)
represent-each P x t xs ts h k zero d u l = h
represent-each P x t xs ts h k (suc i) d u l = k.each i d u (omega (arith, l))

-- one more in front
pub represent-more : {E T : Type 0} (P : E → T → Type 0) (x : E) (t : T) (xs : List E) (ts : List T) → P x t → Represent P xs ts → Represent P (x ∷ xs) (t ∷ ts)
represent-more P x t xs ts h k = record { long = omega (arith, k.long); each = represent-each P x t xs ts h k }

-- what holds in any case holds at an error
pub holds_on_err : {T E P : Type 0} (r : Result T E) → P → OnErr r P
holds_on_err (Ok x) p = tt
holds_on_err (Err e) p = p
