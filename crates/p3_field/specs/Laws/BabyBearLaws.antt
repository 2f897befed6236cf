-- The ring laws of the numbers modulo p, and reduction modulo p.
use Rattle.std.proofs.Common.{zero, suc, ◌≡◌, ℕ, ◌+◌, ◌*◌, ◌-◌, ◌%◌, ◌<◌, ◌≤◌, refl, sym, ◌∙◌, ap, arith}
use Rattle.std.proofs.Math.Bridge.{le_prop}
use mathlib.Core.HLevel.{is_prop→PathP}
use Rattle.std.proofs.lemmas.Nat.{mul-mod, mul-mod_first, mul-mod_second, mul-le}
use Rattle.p3_field.specs.declared.baby_bear.BabyBear.{BabyBear, in_range-type}
use Rattle.p3_field.specs.Ring.{RingLaws, of_nat, sub}
use Rattle.p3_field.specs.BabyBear.{order, reduce, baby_bear_ring}

pub same_baby_bear : (x y : BabyBear) → x.value ≡ y.value → x ≡ y
same_baby_bear x y e = λ i. record {
  value = e i;
  in_range = is_prop→PathP (λ j. in_range-type (e j)) (λ j. le_prop) x.in_range y.in_range i;
}

below : (x : BabyBear) → x.value < 2013265921
below x = x.in_range

add_mod : (a b c : ℕ) → ((a + b) % 2013265921 + c) % 2013265921 ≡ (a + (b + c) % 2013265921) % 2013265921
add_mod a b c = omega arith

sum_mod : (a b : ℕ) → (a + b) % 2013265921 ≡ (a % 2013265921 + b % 2013265921) % 2013265921
sum_mod a b = omega arith

neg_mod : (a : ℕ) → a < 2013265921 → (a + (2013265921 - a) % 2013265921) % 2013265921 ≡ 0 % 2013265921
neg_mod a h = omega arith

self_mod : (a : ℕ) → a < 2013265921 → (a + 0 % 2013265921) % 2013265921 ≡ a
self_mod a h = omega arith

one_mod : (a : ℕ) → a < 2013265921 → (a * (1 % 2013265921)) % 2013265921 ≡ a
one_mod a h = omega arith

mul_assoc_mod : (a b c m : ℕ) → ((a * b) % m * c) % m ≡ (a * ((b * c) % m)) % m
mul_assoc_mod a b c m =
    let e : a * b * c ≡ a * (b * c) = omega arith in
    mul-mod_first (a * b) c m ∙ (ap (λ n. n % m) e ∙ sym (mul-mod_second a (b * c) m))

mul_add_mod : (a b c : ℕ) → (a * ((b + c) % 2013265921)) % 2013265921 ≡ ((a * b) % 2013265921 + (a * c) % 2013265921) % 2013265921
mul_add_mod a b c =
    let e : a * (b + c) ≡ a * b + a * c = omega arith in
    mul-mod_second a (b + c) 2013265921 ∙ (ap (λ n. n % 2013265921) e ∙ sum_mod (a * b) (a * c))

pub baby_bear_laws : RingLaws baby_bear_ring
unfolding baby_bear_ring
baby_bear_laws = record {
  add_comm = λ x y. ap reduce (omega arith);
  add_assoc = λ x y z. same_baby_bear _ _ (add_mod x.value y.value z.value);
  add_zero = λ x. same_baby_bear _ _ (self_mod x.value x.in_range);
  add_neg = λ x. same_baby_bear _ _ (neg_mod x.value x.in_range);
  mul_comm = λ x y. ap reduce (omega arith);
  mul_assoc = λ x y z. same_baby_bear _ _ (mul_assoc_mod x.value y.value z.value 2013265921);
  mul_one = λ x. same_baby_bear _ _ (one_mod x.value x.in_range);
  mul_add = λ x y z. same_baby_bear _ _ (mul_add_mod x.value y.value z.value);
}

later : (a b : ℕ) → (a + (2013265921 - b)) % 2013265921 ≡ (a + (2013265921 - b) % 2013265921) % 2013265921
later a b = omega arith

pub baby_bear_sub : (x y : BabyBear) → reduce (x.value + (2013265921 - y.value)) ≡ sub baby_bear_ring x y
unfolding baby_bear_ring
baby_bear_sub x y = same_baby_bear (reduce (x.value + (2013265921 - y.value))) (sub baby_bear_ring x y) (later x.value y.value)

pub baby_bear_of_nat_value : (m : ℕ) → m % 2013265921 ≡ (of_nat baby_bear_ring m).value
unfolding of_nat baby_bear_ring
baby_bear_of_nat_value zero = refl
baby_bear_of_nat_value (suc m) =
    let s : suc m % 2013265921 ≡ (1 % 2013265921 + m % 2013265921) % 2013265921 = omega arith in
    s ∙ ap (λ k. (1 % 2013265921 + k) % 2013265921) (baby_bear_of_nat_value m)

pub baby_bear_of_nat : (n : ℕ) → reduce n ≡ of_nat baby_bear_ring n
baby_bear_of_nat n = same_baby_bear (reduce n) (of_nat baby_bear_ring n) (baby_bear_of_nat_value n)

-- how code gives the value that is n modulo p
pub baby_bear_is : (x : BabyBear) (n : ℕ) → x.value ≡ n % 2013265921 → x ≡ reduce n
baby_bear_is x n e = same_baby_bear x (reduce n) e

pub reduce_value : (x : BabyBear) → reduce x.value ≡ x
reduce_value x =
    let h : x.value < 2013265921 = x.in_range in
    let e : x.value % 2013265921 ≡ x.value = omega arith in
    same_baby_bear (reduce x.value) x e

pub reduce_add : (m n : ℕ) → reduce (m + n) ≡ baby_bear_ring.add (reduce m) (reduce n)
unfolding baby_bear_ring
reduce_add m n = same_baby_bear (reduce (m + n)) (baby_bear_ring.add (reduce m) (reduce n)) (sum_mod m n)

pub reduce_mul : (m n : ℕ) → reduce (m * n) ≡ baby_bear_ring.mul (reduce m) (reduce n)
unfolding baby_bear_ring
reduce_mul m n = same_baby_bear (reduce (m * n)) (baby_bear_ring.mul (reduce m) (reduce n)) (mul-mod m n 2013265921)

reduce_product : (x y : BabyBear) → reduce (x.value * y.value) ≡ baby_bear_ring.mul x y
reduce_product x y = cc (reduce_mul x.value y.value, reduce_value x, reduce_value y)

-- a product of two values as a number
pub product_below : (x y : BabyBear) → x.value * y.value ≤ (order - 1) * (order - 1)
product_below x y =
    let h : x.value < 2013265921 = x.in_range in
    let k : y.value < 2013265921 = y.in_range in
    mul-le x.value y.value 2013265920 2013265920 (omega arith) (omega arith)

-- a sum of four products, reduced once
pub reduce_products : (a b c d e f g h : BabyBear) →
    reduce (a.value * e.value + b.value * f.value + c.value * g.value + d.value * h.value)
    ≡ baby_bear_ring.add (baby_bear_ring.mul a e) (baby_bear_ring.add (baby_bear_ring.mul b f) (baby_bear_ring.add (baby_bear_ring.mul c g) (baby_bear_ring.mul d h)))
reduce_products a b c d e f g h =
    let k = a.value * e.value in let l = b.value * f.value in let m = c.value * g.value in let n = d.value * h.value in
    let s : k + l + m + n ≡ k + (l + (m + n)) = omega arith in
    ap reduce s ∙
    cc (
      reduce_add k (l + (m + n)),
      reduce_add l (m + n),
      reduce_add m n,
      reduce_product a e,
      reduce_product b f,
      reduce_product c g,
      reduce_product d h,
    )
