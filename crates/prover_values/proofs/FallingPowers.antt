-- The powers of a challenge, one more at a time.
use Rattle.std.proofs.Common.{◌≡◌, ℕ, suc, ◌+◌, List, [], ◌∷◌, ◌++◌, reverse, sym, ◌∙◌, ap, arith}
use Rattle.std.proofs.lemmas.List.{reverse-append}
use Rattle.p3_field.specs.Ring.{Ring, RingLaws, pow}
use Rattle.p3_uni_stark.specs.Fold.{fold_powers}

-- a power more, before the others
pub powers_push : {E : Type 0} (r : Ring E) (a p : E) (n : ℕ) (ps : List E) → reverse ps ≡ fold_powers r a n → p ≡ pow r a n → reverse (ps ++ p ∷ []) ≡ fold_powers r a (n + 1)
unfolding fold_powers
powers_push r a p n ps e f =
    let m : n + 1 ≡ suc n = omega arith in
    reverse-append ps (p ∷ []) ∙ ((λ i. f i ∷ e i) ∙ ap (fold_powers r a) (sym m))

pub power_more : {E : Type 0} (r : Ring E) (L : RingLaws r) (a p : E) (n : ℕ) → p ≡ pow r a n → r.mul p a ≡ pow r a (n + 1)
unfolding pow
power_more r L a p n e =
    let m : n + 1 ≡ suc n = omega arith in
    ap (λ x. r.mul x a) e ∙ (L.mul_comm (pow r a n) a ∙ ap (pow r a) (sym m))
