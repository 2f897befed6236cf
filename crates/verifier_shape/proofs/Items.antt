-- Items that lack what others have, and answers that are the same.
use Rattle.std.proofs.Common.{◌≡◌, ℕ, ◌<◌, List, length, All, get_or, refl, subst}
use Rattle.std.specs.Prelude.{Bool, true, false, not}
use Rattle.std.proofs.lemmas.List.Elements.{All-get_or}
use mathlib.Core.Bool.{beq}

-- not all items have what one of them lacks
pub not_all : {X : Type 0} (P : X → Type 0) (xs : List X) (i : ℕ) (d x : X) → i < length xs → get_or xs i d ≡ x → (P x → ⊥) → All P xs → ⊥
not_all P xs i d x b e n a = n (subst P e (All-get_or P xs i d b a))

pub same_bits : (a b : Bool) → not (beq a b) ≡ false → a ≡ b
same_bits true true e = refl
same_bits true false e = cc
same_bits false true e = cc
same_bits false false e = refl
