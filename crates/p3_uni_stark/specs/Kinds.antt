-- The fold of constraints that are listed by kinds, those over the base field apart from those over the extension. The
-- rule is that of Plonky3's p3-air (ConstraintLayout::decompose_alpha).
use Rattle.std.specs.Prelude.{◌≡◌, ℕ, List, length, map}
use Rattle.std.specs.Prelude.{slice_index_or as get_or}
use Rattle.p3_field.specs.Ring.{Ring}
use Rattle.air_core.specs.Layout.{Places, place_count, folding_powers, ListsEachOnce}
use Rattle.p3_uni_stark.specs.Fold.{fold, weighed}

-- the values at these places
abbrev pub items_at : {E : Type 0} → Ring E → List E → List ℕ → List E
items_at r cs is = map (λ i. get_or cs i r.zero) is

-- Where each of n constraints stands once in one of both lists, the sum of the values at one list's places times their
-- powers and that at the other's are together the fold of all n values in order.
abbrev pub FoldsByKinds : {E : Type 0} → Ring E → Type 0
FoldsByKinds {E} r = (a : E) (p : Places) (cs : List E) → length cs ≡ place_count p → ListsEachOnce p
    → r.add (weighed r (folding_powers r a (place_count p) p.base_indices) (items_at r cs p.base_indices))
    (weighed r (folding_powers r a (place_count p) p.ext_indices) (items_at r cs p.ext_indices))
    ≡ fold r a cs
