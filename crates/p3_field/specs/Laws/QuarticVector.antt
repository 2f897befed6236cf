-- The quartic extension as a space of dimension 4 over its base.
use Rattle.std.proofs.Common.{◌≡◌, ℕ, List, [], ◌∷◌, length, get_or, map, ap, refl, sym, ◌∙◌, lit<}
use Rattle.p3_field.specs.declared.baby_bear.BabyBear.{BabyBear}
use Rattle.p3_field.specs.declared.quartic.QuarticExtension.{QuarticExtension}
use Rattle.p3_field.specs.Ring.{Ring, RingLaws}
use Rattle.p3_field.specs.Field.{VectorLaws, combine}
use Rattle.p3_field.specs.BabyBear.{reduce, baby_bear_ring}
use Rattle.p3_field.specs.Quartic.{quartic_ring, to_four_coefficients, of_four_coefficients, of_baby_bear_value, quartic_coefficients, quartic_from_coefficients, quartic_basis}
use Rattle.p3_field.specs.Laws.BabyBearLaws.{baby_bear_laws}
use Rattle.p3_field.specs.Laws.QuarticRings.{sum_of_parts_is}

from_coefficients_of_4 : (c : List BabyBear) → length c ≡ 4 → quartic_coefficients (quartic_from_coefficients c) ≡ c
from_coefficients_of_4 [] e = cc
from_coefficients_of_4 (a ∷ []) e = cc
from_coefficients_of_4 (a ∷ b ∷ []) e = cc
from_coefficients_of_4 (a ∷ b ∷ c ∷ []) e = cc
from_coefficients_of_4 (a ∷ b ∷ c ∷ d ∷ []) e = refl
from_coefficients_of_4 (a ∷ b ∷ c ∷ d ∷ f ∷ r) e = cc

pub quartic_vector_laws : VectorLaws 4 quartic_coefficients quartic_from_coefficients
quartic_vector_laws = record { positive = lit< tt; coefficients_length = λ x. refl; from_coefficients_of_coefficients = λ x. refl; coefficients_of_from_coefficients = from_coefficients_of_4 }

-- a list of four by its elements
pub list_of_four : {A : Type 0} (xs : List A) (a b c d : A) → length xs ≡ 4 → a ≡ get_or xs 0 a → b ≡ get_or xs 1 b → c ≡ get_or xs 2 c → d ≡ get_or xs 3 d → xs ≡ a ∷ b ∷ c ∷ d ∷ []
list_of_four [] a b c d n e f g h = cc
list_of_four (x ∷ []) a b c d n e f g h = cc
list_of_four (x ∷ y ∷ []) a b c d n e f g h = cc
list_of_four (x ∷ y ∷ z ∷ []) a b c d n e f g h = cc
list_of_four (x ∷ y ∷ z ∷ t ∷ []) a b c d n e f g h = cc
list_of_four (x ∷ y ∷ z ∷ t ∷ u ∷ us) a b c d n e f g h = cc

-- a combination of four
pub combine_four : {A : Type 0} (r : Ring A) (L : RingLaws r) (e : ℕ → A) (xs : List A) (a b c d : A) → xs ≡ a ∷ b ∷ c ∷ d ∷ [] →
    r.add (r.mul a (e 0)) (r.add (r.mul b (e 1)) (r.add (r.mul c (e 2)) (r.mul d (e 3)))) ≡ combine r e 0 xs
combine_four {A} r L e xs a b c d s =
    let sum = λ (v : A). r.add (r.mul a (e 0)) (r.add (r.mul b (e 1)) (r.add (r.mul c (e 2)) v)) in
    sym (ap (combine r e 0) s ∙ ap sum (L.add_zero (r.mul d (e 3))))

-- each value is the combination of the basis with its coefficients
pub quartic_spans : (x : QuarticExtension) → combine quartic_ring quartic_basis 0 (map of_baby_bear_value (quartic_coefficients x)) ≡ x
unfolding quartic_ring baby_bear_ring
quartic_spans x = ap of_four_coefficients (sum_of_parts_is baby_bear_ring baby_bear_laws (reduce 11) (to_four_coefficients x))
