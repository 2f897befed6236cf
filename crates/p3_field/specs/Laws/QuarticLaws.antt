-- The ring laws of the quartic extension, and the embedding of its base.
use Rattle.std.proofs.Common.{◌≡◌, ℕ, zero, suc, ◌<◌, ap, refl, sym, ◌∙◌, arith}
use Rattle.p3_field.specs.declared.baby_bear.BabyBear.{BabyBear}
use Rattle.p3_field.specs.declared.quartic.QuarticExtension.{QuarticExtension}
use Rattle.p3_field.specs.Ring.{RingLaws, pow, of_nat}
use Rattle.p3_field.specs.Field.{RingHom}
use Rattle.p3_field.specs.BabyBear.{reduce, baby_bear_ring}
use Rattle.p3_field.specs.Quartic.{quartic_ring, to_four_coefficients, of_four_coefficients, of_baby_bear_value, quartic_basis}
use Rattle.p3_field.specs.Laws.BabyBearLaws.{baby_bear_laws, same_baby_bear}
use Rattle.p3_field.specs.Laws.QuarticRings.{quartic_ring_over_laws, zero_parts, by_coefficients, by_coefficients_is}

pub quartic_laws : RingLaws quartic_ring
unfolding quartic_ring
quartic_laws = let L = quartic_ring_over_laws baby_bear_ring baby_bear_laws (reduce 11) in record {
  add_comm = λ x y. ap of_four_coefficients (L.add_comm (to_four_coefficients x) (to_four_coefficients y));
  add_assoc = λ x y z. ap of_four_coefficients (L.add_assoc (to_four_coefficients x) (to_four_coefficients y) (to_four_coefficients z));
  add_zero = λ x. ap of_four_coefficients (L.add_zero (to_four_coefficients x));
  add_neg = λ x. ap of_four_coefficients (L.add_neg (to_four_coefficients x));
  mul_comm = λ x y. ap of_four_coefficients (L.mul_comm (to_four_coefficients x) (to_four_coefficients y));
  mul_assoc = λ x y z. ap of_four_coefficients (L.mul_assoc (to_four_coefficients x) (to_four_coefficients y) (to_four_coefficients z));
  mul_one = λ x. ap of_four_coefficients (L.mul_one (to_four_coefficients x));
  mul_add = λ x y z. ap of_four_coefficients (L.mul_add (to_four_coefficients x) (to_four_coefficients y) (to_four_coefficients z));
}

-- two values with the same four numbers are one
pub quartic_same : (x y : QuarticExtension) → x.c0.value ≡ y.c0.value → x.c1.value ≡ y.c1.value → x.c2.value ≡ y.c2.value → x.c3.value ≡ y.c3.value → x ≡ y
quartic_same x y a b c d = λ i. record { c0 = same_baby_bear x.c0 y.c0 a i; c1 = same_baby_bear x.c1 y.c1 b i; c2 = same_baby_bear x.c2 y.c2 c i; c3 = same_baby_bear x.c3 y.c3 d i }

pub of_baby_bear_zero : of_baby_bear_value baby_bear_ring.zero ≡ quartic_ring.zero
unfolding quartic_ring
of_baby_bear_zero = refl

pub of_baby_bear_one : of_baby_bear_value baby_bear_ring.one ≡ quartic_ring.one
unfolding quartic_ring
of_baby_bear_one = refl

of_baby_bear_add : (x y : BabyBear) → of_baby_bear_value (baby_bear_ring.add x y) ≡ quartic_ring.add (of_baby_bear_value x) (of_baby_bear_value y)
unfolding quartic_ring
of_baby_bear_add x y = let z = sym (baby_bear_laws.add_zero baby_bear_ring.zero) in λ i. record { c0 = baby_bear_ring.add x y; c1 = z i; c2 = z i; c3 = z i }

of_baby_bear_mul : (x y : BabyBear) → of_baby_bear_value (baby_bear_ring.mul x y) ≡ quartic_ring.mul (of_baby_bear_value x) (of_baby_bear_value y)
unfolding quartic_ring
of_baby_bear_mul x y = let z = zero_parts baby_bear_ring baby_bear_laws (reduce 11) x y in λ i. of_four_coefficients (z i)

pub quartic_hom : RingHom baby_bear_ring quartic_ring of_baby_bear_value
quartic_hom = record {
  keeps_zero = of_baby_bear_zero;
  keeps_one = of_baby_bear_one;
  keeps_add = of_baby_bear_add;
  keeps_mul = of_baby_bear_mul;
}

pub of_baby_bear_of_nat : (n : ℕ) → of_baby_bear_value (of_nat baby_bear_ring n) ≡ of_nat quartic_ring n
unfolding of_nat
of_baby_bear_of_nat zero = of_baby_bear_zero
of_baby_bear_of_nat (suc n) = of_baby_bear_add baby_bear_ring.one (of_nat baby_bear_ring n) ∙ cc (of_baby_bear_one, of_baby_bear_of_nat n)

-- the product by its coefficients
pub quartic_product : (x y z : QuarticExtension) → z ≡ of_four_coefficients (by_coefficients baby_bear_ring (reduce 11) (to_four_coefficients x) (to_four_coefficients y)) → z ≡ quartic_ring.mul x y
unfolding quartic_ring
quartic_product x y z e = e ∙ ap of_four_coefficients (by_coefficients_is baby_bear_ring baby_bear_laws (reduce 11) (to_four_coefficients x) (to_four_coefficients y))

-- x^4 is 11
pub quartic_x_to_4 : pow quartic_ring (quartic_basis 1) 4 ≡ of_baby_bear_value (reduce 11)
unfolding pow quartic_ring baby_bear_ring
quartic_x_to_4 = quartic_same _ _ refl refl refl refl

-- basis element i is x^i
pub quartic_basis_is_power : (i : ℕ) → i < 4 → quartic_basis i ≡ pow quartic_ring (quartic_basis 1) i
unfolding pow quartic_ring baby_bear_ring
quartic_basis_is_power zero h = quartic_same _ _ refl refl refl refl
quartic_basis_is_power (suc zero) h = quartic_same _ _ refl refl refl refl
quartic_basis_is_power (suc (suc zero)) h = quartic_same _ _ refl refl refl refl
quartic_basis_is_power (suc (suc (suc zero))) h = quartic_same _ _ refl refl refl refl
quartic_basis_is_power (suc (suc (suc (suc i)))) h = absurd (omega arith)
