-- The checks of preprocessed rows, where there are preprocessed columns.
use Rattle.std.proofs.Common.{◌≡◌, ℕ, zero, suc, List, [], ◌∷◌, Option, refl}
use Rattle.p3_uni_stark.specs.Opened.{PreprocessedData}
use Rattle.verifier_shape.specs.ShapeChecks.{preprocessed_checks, preprocessed_next_check, preprocessed_width_check}

pub where_there : {E : Type 0} (R : Type 0) (i width : ℕ) (declared : List ℕ) (p : Option (PreprocessedData E)) → (width ≡ 0 → ⊥)
    → preprocessed_checks {R = R} i width declared p ≡ preprocessed_width_check i width declared p ∷ preprocessed_next_check i declared p ∷ []
where_there R i zero declared p h = absurd (h refl)
where_there R i (suc n) declared p h = refl
