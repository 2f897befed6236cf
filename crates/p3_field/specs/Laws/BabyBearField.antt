-- The field of the numbers modulo p.
use Rattle.std.proofs.Common.{◌≡◌, ℕ, ◌+◌, ◌*◌, ◌-◌, ◌%◌, ◌^◌, ◌<◌, ◌≤◌, ◌↔◌, zero, suc, true, nat_eq, refl, sym, ◌∙◌, ap, arith, lit<}
use Rattle.std.specs.Prelude.{IsTrue}
use Rattle.std.proofs.lemmas.Bool.{eqb-true, eq-eqb}
use Rattle.std.proofs.lemmas.Bool.Decides.{nat_tests}
use Rattle.std.proofs.Math.Nat.{pow-suc}
use Rattle.p3_field.specs.Laws.BabyBearOrder.{one_not_zero, inverse_power, g_value}
use Rattle.p3_field.specs.Laws.Algebra.{pow_one, pow_add, pow_square, pow_double}
use Rattle.p3_field.specs.Laws.Order.{pow_times}
use Rattle.p3_field.specs.declared.baby_bear.BabyBear.{BabyBear}
use Rattle.p3_field.specs.Ring.{pow, of_nat}
use Rattle.p3_field.specs.Field.{FieldLaws, TwoAdicLaws}
use Rattle.p3_field.specs.BabyBear.{reduce, baby_bear_ring, baby_bear_inv, baby_bear_root}
use Rattle.p3_field.specs.Laws.BabyBearLaws.{same_baby_bear, baby_bear_laws, baby_bear_of_nat_value}

pub baby_bear_field_laws : FieldLaws baby_bear_ring baby_bear_inv
unfolding baby_bear_inv
baby_bear_field_laws = record { one_differs = one_not_zero; mul_inv = inverse_power }

pub baby_bear_zero : (x : BabyBear) → (x.value ≡ 0) ↔ (x ≡ baby_bear_ring.zero)
unfolding baby_bear_ring
baby_bear_zero x = (λ e. same_baby_bear x (reduce 0) e, λ e. ap (λ v. v.value) e)

pub baby_bear_is_zero : (x : BabyBear) → IsTrue (nat_eq x.value 0) ↔ (x ≡ baby_bear_ring.zero)
baby_bear_is_zero x = (
  (λ t. let e : x.value ≡ 0 = grind (arith, nat_tests) in (baby_bear_zero x).0 e),
  (λ z. let e : x.value ≡ 0 = (baby_bear_zero x).1 z in grind (arith, nat_tests)),
)

pub baby_bear_same_eq : (x y : BabyBear) → nat_eq x.value y.value ≡ true → x ≡ y
baby_bear_same_eq x y e = same_baby_bear x y (eqb-true x.value y.value e)

pub baby_bear_eq_same : (x : BabyBear) → nat_eq x.value x.value ≡ true
baby_bear_eq_same x = eq-eqb x.value x.value refl

pub baby_bear_31 : reduce 31 ≡ baby_bear_ring.zero → ⊥
unfolding baby_bear_ring
baby_bear_31 e = let f : ◌≡◌ {A = ℕ} 31 0 = ap (λ (v : BabyBear). v.value) e in omega arith

pub baby_bear_canonical_of : (n : ℕ) → (of_nat baby_bear_ring n).value ≡ n % 2013265921
baby_bear_canonical_of n = sym (baby_bear_of_nat_value n)

pub baby_bear_of_canonical : (x : BabyBear) → of_nat baby_bear_ring x.value ≡ x
baby_bear_of_canonical x =
    let h = x.in_range in
    let small : x.value < 2013265921 = h in
    let e : x.value % 2013265921 ≡ x.value = omega arith in
    same_baby_bear (of_nat baby_bear_ring x.value) x (sym (baby_bear_of_nat_value x.value) ∙ e)

-- n squarings modulo p
abbrev squares : ℕ → ℕ → ℕ
squares zero v = v
squares (suc n) v = squares n ((v * v) % 2013265921)

squares_value : (n : ℕ) (x : BabyBear) → (pow baby_bear_ring x (2 ^ n)).value ≡ squares n x.value
unfolding baby_bear_ring
squares_value zero x = ap (λ v. v.value) (pow_one baby_bear_ring baby_bear_laws x)
squares_value (suc n) x =
    let e : 2 ^ suc n ≡ 2 ^ n + 2 ^ n = rw pow-suc (omega arith) in
    let f : pow baby_bear_ring x (2 ^ suc n) ≡ pow baby_bear_ring (baby_bear_ring.mul x x) (2 ^ n) =
    ap (pow baby_bear_ring x) e ∙ sym (pow_square baby_bear_ring baby_bear_laws x (2 ^ n)) in
    ap (λ v. v.value) f ∙ squares_value n (baby_bear_ring.mul x x)

-- 31^15
abbrev root_of_all : BabyBear
root_of_all = reduce 440564289

fifteenth : pow baby_bear_ring (reduce 31) 15 ≡ root_of_all
fifteenth = same_baby_bear (pow baby_bear_ring (reduce 31) 15) root_of_all (g_value 15 (lit< tt))

-- the generator by squarings of 31^15
baby_bear_root_squares : (k : ℕ) → pow baby_bear_ring root_of_all (2 ^ (27 - k)) ≡ baby_bear_root k
unfolding baby_bear_root
baby_bear_root_squares k =
    ap (λ v. pow baby_bear_ring v (2 ^ (27 - k))) (sym fifteenth) ∙ sym (pow_times baby_bear_ring baby_bear_laws (reduce 31) 15 (2 ^ (27 - k)))

pub baby_bear_root_from : (x y : BabyBear) (k : ℕ) → y ≡ pow baby_bear_ring x (2 ^ (27 - k)) → x.value ≡ 440564289 → y ≡ baby_bear_root k
baby_bear_root_from x y k p e = p ∙ (ap (λ v. pow baby_bear_ring v (2 ^ (27 - k))) (same_baby_bear x root_of_all e) ∙ baby_bear_root_squares k)

root_value : (k n : ℕ) → 27 - k ≡ n → (baby_bear_root k).value ≡ squares n 440564289
root_value k n e =
    ap (λ v. v.value) (sym (baby_bear_root_squares k))
    ∙ (ap (λ m. (pow baby_bear_ring root_of_all (2 ^ m)).value) e ∙ squares_value n root_of_all)

root_square : (k : ℕ) → k < 27 → baby_bear_ring.mul (baby_bear_root (k + 1)) (baby_bear_root (k + 1)) ≡ baby_bear_root k
root_square k h =
    let e : (27 - (k + 1)) + 1 ≡ 27 - k = omega arith in
    pow_double baby_bear_ring baby_bear_laws root_of_all (baby_bear_root (k + 1)) (27 - (k + 1)) (sym (baby_bear_root_squares (k + 1)))
    ∙ (ap (λ n. pow baby_bear_ring root_of_all (2 ^ n)) e ∙ baby_bear_root_squares k)

pub baby_bear_root_laws : TwoAdicLaws baby_bear_ring 27 baby_bear_root
unfolding baby_bear_ring
baby_bear_root_laws = record {
  gen_zero = same_baby_bear _ _ (root_value 0 27 refl);
  gen_one = λ h. same_baby_bear _ _ (root_value 1 26 refl);
  gen_square = root_square;
  minus_one_differs = λ h e. let f : ◌≡◌ {A = ℕ} 2013265920 1 = sym (root_value 1 26 refl) ∙ ap (λ (v : BabyBear). v.value) e in omega arith;
}

-- No power 31^(2^k) is one: 31 generates the whole multiplicative group.
pub baby_bear_31_power : (k : ℕ) → k ≤ 27 → pow baby_bear_ring (reduce 31) (2 ^ k) ≡ baby_bear_ring.one → ⊥
unfolding baby_bear_ring
baby_bear_31_power k h e =
    let j : k + (27 - k) ≡ 27 = omega arith in
    let top : pow baby_bear_ring (reduce 31) (2 ^ 27) ≡ baby_bear_ring.one = ap (λ m. pow baby_bear_ring (reduce 31) (2 ^ m)) (sym j) ∙ later_power k (27 - k) e in
    let f : ◌≡◌ {A = ℕ} (squares 27 31) 1 = sym (squares_value 27 (reduce 31)) ∙ ap (λ (v : BabyBear). v.value) top in omega arith
  where
    later_power : (k m : ℕ) → pow baby_bear_ring (reduce 31) (2 ^ k) ≡ baby_bear_ring.one → pow baby_bear_ring (reduce 31) (2 ^ (k + m)) ≡ baby_bear_ring.one
    later_power k zero e = let f : k + zero ≡ k = omega arith in ap (λ m. pow baby_bear_ring (reduce 31) (2 ^ m)) f ∙ e
    later_power k (suc m) e =
        let f : k + suc m ≡ suc (k + m) = omega arith in
        let s : 2 ^ suc (k + m) ≡ 2 ^ (k + m) + 2 ^ (k + m) = rw pow-suc (omega arith) in
        let one = later_power k m e in
        ap (λ m. pow baby_bear_ring (reduce 31) (2 ^ m)) f
        ∙ (ap (pow baby_bear_ring (reduce 31)) s ∙ (pow_add baby_bear_ring baby_bear_laws (reduce 31) (2 ^ (k + m)) (2 ^ (k + m)) ∙ cc (one, baby_bear_laws.mul_one baby_bear_ring.one)))
