-- The quartic extension of BabyBear: polynomials c0 + c1 x + c2 x^2 + c3 x^3 modulo x^4 - 11
-- (Plonky3's p3-field, BinomialExtensionField, over p3-baby-bear).
use Rattle.std.proofs.Common.{ℕ, zero, suc, List, [], ◌∷◌}
use Rattle.p3_field.specs.declared.baby_bear.BabyBear.{BabyBear}
use Rattle.p3_field.specs.declared.quartic.QuarticExtension.{QuarticExtension}
use Rattle.p3_field.specs.Ring.{Ring}
use Rattle.p3_field.specs.BabyBear.{reduce, baby_bear_ring, baby_bear_inv}

-- four coefficients over any `A`, lowest first
pub record FourCoefficients (A : Type 0) : Type 0 where
  pub c0 : A
  pub c1 : A
  pub c2 : A
  pub c3 : A

-- polynomials of degree below 4 modulo x^4 - w: the coefficient of x^(4+i) in a product goes to x^i, times w
abbrev pub quartic_ring_over : {A : Type 0} → Ring A → A → Ring (FourCoefficients A)
quartic_ring_over r w = record {
  zero = record { c0 = r.zero; c1 = r.zero; c2 = r.zero; c3 = r.zero };
  one = record { c0 = r.one; c1 = r.zero; c2 = r.zero; c3 = r.zero };
  add = λ x y. record { c0 = r.add x.c0 y.c0; c1 = r.add x.c1 y.c1; c2 = r.add x.c2 y.c2; c3 = r.add x.c3 y.c3 };
  mul = λ x y. record {
    c0 = r.add (r.mul x.c0 y.c0) (r.mul w (r.add (r.mul x.c1 y.c3) (r.add (r.mul x.c2 y.c2) (r.mul x.c3 y.c1))));
    c1 = r.add (r.add (r.mul x.c0 y.c1) (r.mul x.c1 y.c0)) (r.mul w (r.add (r.mul x.c2 y.c3) (r.mul x.c3 y.c2)));
    c2 = r.add (r.add (r.mul x.c0 y.c2) (r.add (r.mul x.c1 y.c1) (r.mul x.c2 y.c0))) (r.mul w (r.mul x.c3 y.c3));
    c3 = r.add (r.add (r.mul x.c0 y.c3) (r.mul x.c1 y.c2)) (r.add (r.mul x.c2 y.c1) (r.mul x.c3 y.c0));
  };
  neg = λ x. record { c0 = r.neg x.c0; c1 = r.neg x.c1; c2 = r.neg x.c2; c3 = r.neg x.c3 };
}

-- a value's coefficients
abbrev pub to_four_coefficients : QuarticExtension → FourCoefficients BabyBear
to_four_coefficients x = record { c0 = x.c0; c1 = x.c1; c2 = x.c2; c3 = x.c3 }

-- the value of coefficients
abbrev pub of_four_coefficients : FourCoefficients BabyBear → QuarticExtension
of_four_coefficients x = record { c0 = x.c0; c1 = x.c1; c2 = x.c2; c3 = x.c3 }

-- sums and products modulo x^4 - 11
unfoldable pub quartic_ring : Ring QuarticExtension
quartic_ring = let r = quartic_ring_over baby_bear_ring (reduce 11) in record {
  zero = of_four_coefficients r.zero;
  one = of_four_coefficients r.one;
  add = λ x y. of_four_coefficients (r.add (to_four_coefficients x) (to_four_coefficients y));
  mul = λ x y. of_four_coefficients (r.mul (to_four_coefficients x) (to_four_coefficients y));
  neg = λ x. of_four_coefficients (r.neg (to_four_coefficients x));
}

-- the constant polynomial
abbrev pub of_baby_bear_value : BabyBear → QuarticExtension
of_baby_bear_value x = record { c0 = x; c1 = baby_bear_ring.zero; c2 = baby_bear_ring.zero; c3 = baby_bear_ring.zero }

-- the coefficients as a list, lowest first
abbrev pub quartic_coefficients : QuarticExtension → List BabyBear
quartic_coefficients x = x.c0 ∷ x.c1 ∷ x.c2 ∷ x.c3 ∷ []

-- the value of a list of four coefficients; of other lists zero
abbrev pub quartic_from_coefficients : List BabyBear → QuarticExtension
quartic_from_coefficients (a ∷ b ∷ c ∷ d ∷ []) = record { c0 = a; c1 = b; c2 = c; c3 = d }
quartic_from_coefficients _ = record { c0 = reduce 0; c1 = reduce 0; c2 = reduce 0; c3 = reduce 0 }

-- basis element i of four: x^i
abbrev pub quartic_basis : ℕ → QuarticExtension
quartic_basis zero = record { c0 = reduce 1; c1 = reduce 0; c2 = reduce 0; c3 = reduce 0 }
quartic_basis (suc zero) = record { c0 = reduce 0; c1 = reduce 1; c2 = reduce 0; c3 = reduce 0 }
quartic_basis (suc (suc zero)) = record { c0 = reduce 0; c1 = reduce 0; c2 = reduce 1; c3 = reduce 0 }
quartic_basis _ = record { c0 = reduce 0; c1 = reduce 0; c2 = reduce 0; c3 = reduce 1 }

-- the norm of x modulo x^4 - w: the product of x with its three conjugates. With a + b x^2 the product of c0 + c1 x + c2 x^2 + c3 x^3
-- with c0 - c1 x + c2 x^2 - c3 x^3, it is a^2 - w b^2
abbrev pub quartic_norm_over : {A : Type 0} → Ring A → A → FourCoefficients A → A
quartic_norm_over r w x =
    let two = r.add r.one r.one in
    let a = r.add (r.mul x.c0 x.c0) (r.add (r.mul w (r.mul x.c2 x.c2)) (r.neg (r.mul two (r.mul w (r.mul x.c1 x.c3))))) in
    let b = r.add (r.mul two (r.mul x.c0 x.c2)) (r.neg (r.add (r.mul x.c1 x.c1) (r.mul w (r.mul x.c3 x.c3)))) in
    r.add (r.mul a a) (r.neg (r.mul w (r.mul b b)))

-- the product of the other three conjugates: c0 - c1 x + c2 x^2 - c3 x^3 times a - b x^2
abbrev pub quartic_adjoint_over : {A : Type 0} → Ring A → A → FourCoefficients A → FourCoefficients A
quartic_adjoint_over r w x =
    let two = r.add r.one r.one in
    let a = r.add (r.mul x.c0 x.c0) (r.add (r.mul w (r.mul x.c2 x.c2)) (r.neg (r.mul two (r.mul w (r.mul x.c1 x.c3))))) in
    let b = r.add (r.mul two (r.mul x.c0 x.c2)) (r.neg (r.add (r.mul x.c1 x.c1) (r.mul w (r.mul x.c3 x.c3)))) in
    (quartic_ring_over r w).mul (record { c0 = x.c0; c1 = r.neg x.c1; c2 = x.c2; c3 = r.neg x.c3 }) (record { c0 = a; c1 = r.zero; c2 = r.neg b; c3 = r.zero })

-- N(x) = x times its adjoint
unfoldable pub quartic_norm : QuarticExtension → BabyBear
quartic_norm x = quartic_norm_over baby_bear_ring (reduce 11) (to_four_coefficients x)

-- the product of the other three conjugates of x
unfoldable pub quartic_adjoint : QuarticExtension → QuarticExtension
quartic_adjoint x = of_four_coefficients (quartic_adjoint_over baby_bear_ring (reduce 11) (to_four_coefficients x))

-- k x, for k of the base
abbrev pub scaled : BabyBear → QuarticExtension → QuarticExtension
scaled k x = record { c0 = baby_bear_ring.mul k x.c0; c1 = baby_bear_ring.mul k x.c1; c2 = baby_bear_ring.mul k x.c2; c3 = baby_bear_ring.mul k x.c3 }

-- the adjoint over the norm
unfoldable pub quartic_inv : QuarticExtension → QuarticExtension
quartic_inv x = scaled (baby_bear_inv (quartic_norm x)) (quartic_adjoint x)
