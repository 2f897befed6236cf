-- The fold of constraint values by a challenge. The rule is that of Plonky3's p3-uni-stark (the constraint folders).
use Rattle.std.specs.Prelude.{ℕ, zero, suc, List, [], ◌∷◌, length}
use Rattle.p3_field.specs.Ring.{Ring, pow}

-- the sum of a^(n-1-i) c_i over the n values: the first weighs most, and the last weighs one
unfoldable pub fold : {E : Type 0} → Ring E → E → List E → E
fold r a [] = r.zero
fold r a (c ∷ cs) = r.add (r.mul (pow r a (length cs)) c) (fold r a cs)

-- the weights of n values in their fold: a^(n-1), .., a, 1
unfoldable pub fold_powers : {E : Type 0} → Ring E → E → ℕ → List E
fold_powers r a zero = []
fold_powers r a (suc n) = pow r a n ∷ fold_powers r a n

-- the sum of each weight times the value at its place, as far as there are both
abbrev pub weighed : {E : Type 0} → Ring E → List E → List E → E
weighed r ws [] = r.zero
weighed r [] (c ∷ cs) = r.zero
weighed r (w ∷ ws) (c ∷ cs) = r.add (r.mul w c) (weighed r ws cs)

-- values folded one by one into the sum s, by Horner's rule: from zero this is their fold
abbrev pub fold_from : {E : Type 0} → Ring E → E → E → List E → E
fold_from r a s [] = s
fold_from r a s (c ∷ cs) = fold_from r a (r.add (r.mul s a) c) cs

-- the weights that are left, and the sum so far
pub record Sum (E : Type 0) : Type 0 where
  pub left : List E
  pub total : E

-- a value takes the next weight; past the last weight it adds nothing
abbrev pub added_to : {E : Type 0} → Ring E → List E → E → E → Sum E
added_to r [] s c = record { left = []; total = s }
added_to r (w ∷ ws) s c = record { left = ws; total = r.add s (r.mul w c) }

-- values that take their weights one by one: from zero this is the weighed sum, and with the powers in
-- order their fold
abbrev pub weighed_from : {E : Type 0} → Ring E → Sum E → List E → Sum E
weighed_from r s [] = s
weighed_from r s (c ∷ cs) = weighed_from r (added_to r s.left s.total c) cs
