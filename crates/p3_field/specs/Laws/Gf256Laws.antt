-- The ring laws of the field of 256 elements.
use Rattle.std.proofs.Common.{◌≡◌, ℕ, zero, suc, ◌+◌, ◌*◌, ◌-◌, ◌/◌, ◌%◌, ◌^◌, ◌<◌, ◌⊎◌, inl, inr, nat_eq, refl, sym, ◌∙◌, ap, add-one, arith, lit<}
use Rattle.std.specs.Prelude.{bit_xor}
use Rattle.std.specs.Int.Bits.{xor_assoc, xor_self}
use Rattle.std.proofs.lemmas.Nat.{xor_comm, xor_lt, xor_mod, xor_shr, xor_block, shr-shr}
use Rattle.std.proofs.lemmas.Bool.{eqb-true}
use Rattle.std.proofs.Math.Bridge.{le_prop}
use mathlib.Core.HLevel.{is_prop→PathP}
use lib.Bits.{xor_zero_r}
use Rattle.p3_field.specs.declared.gf256.Gf256.{Gf256, in_range-type}
use Rattle.p3_field.specs.Ring.{RingLaws, pow, of_nat}
use Rattle.p3_field.specs.Poly.{total}
use Rattle.p3_field.specs.Gf256.{times_x, byte_mul, of_byte, gf256_ring}
use Rattle.p3_field.specs.Laws.Order.{below_at}

pub same_gf256 : (x y : Gf256) → x.value ≡ y.value → x ≡ y
same_gf256 x y e = λ i. record {
  value = e i;
  in_range = is_prop→PathP (λ j. in_range-type (e j)) (λ j. le_prop) x.in_range y.in_range i;
}

below : (x : Gf256) → x.value < 256
below x = x.in_range

xor_swap : (a b c d : ℕ) → bit_xor (bit_xor a b) (bit_xor c d) ≡ bit_xor (bit_xor a c) (bit_xor b d)
xor_swap a b c d = cc (xor_assoc a b (bit_xor c d), xor_assoc b c d, xor_comm b c, xor_assoc c b d, xor_assoc a c (bit_xor b d))

bit_or_none : (n : ℕ) → n < 2 → (n ≡ 0) ⊎ (n ≡ 1)
bit_or_none zero h = inl refl
bit_or_none (suc zero) h = inr refl
bit_or_none (suc (suc n)) h = absurd (omega arith)

-- a bit times a number
chosen_xor : (c a b : ℕ) → c < 2 → c * bit_xor a b ≡ bit_xor (c * a) (c * b)
chosen_xor c a b h = elim (bit_or_none c h) [
  | inl e ↦
      let p : 0 * bit_xor a b ≡ 0 = omega arith in
      let q : 0 * a ≡ 0 = omega arith in
      let s : 0 * b ≡ 0 = omega arith in
      cc (xor_self 0)
  | inr e ↦
      let p : 1 * bit_xor a b ≡ bit_xor a b = omega arith in
      let q : 1 * a ≡ a = omega arith in
      let s : 1 * b ≡ b = omega arith in
      cc
]

chosen_below : (c a : ℕ) → c < 2 → a < 256 → c * a < 256
chosen_below c a h k = elim (bit_or_none c h) [ inl e ↦ rw e (omega arith) | inr e ↦ rw e (omega arith) ]

shifted_xor : (a b : ℕ) → 2 * bit_xor a b % 256 ≡ bit_xor (2 * a % 256) (2 * b % 256)
shifted_xor a b =
    let p : bit_xor (a * 2 + 0) (b * 2 + 0) ≡ bit_xor a b * 2 + bit_xor 0 0 = xor_block 1 a b 0 0 (lit< tt) (lit< tt) in
    let q : a * 2 + 0 ≡ 2 * a = omega arith in
    let s : b * 2 + 0 ≡ 2 * b = omega arith in
    let t : 2 * bit_xor a b ≡ bit_xor a b * 2 + 0 = omega arith in
    let e : 2 * bit_xor a b ≡ bit_xor (2 * a) (2 * b) = cc (xor_self 0) in
    ap (λ n. n % 256) e ∙ xor_mod (2 * a) (2 * b) 8

top_bit : (a : ℕ) → a < 256 → a / 128 < 2
top_bit a h = omega arith

folded_xor : (p q : ℕ) → p < 2 → q < 2 → 27 * bit_xor p q ≡ bit_xor (27 * p) (27 * q)
folded_xor p q h k = elim (bit_or_none p h) [
  | inl e ↦ elim (bit_or_none q k) [ inl f ↦ rw (e, f) refl | inr f ↦ rw (e, f) refl ]
  | inr e ↦ elim (bit_or_none q k) [ inl f ↦ rw (e, f) refl | inr f ↦ rw (e, f) refl ]
]

pub times_x_below : (a : ℕ) → a < 256 → times_x a < 256
times_x_below a h = xor_lt 8 (2 * a % 256) (27 * (a / 128)) (omega arith) (omega arith)

times_x_xor : (a b : ℕ) → a < 256 → b < 256 → times_x (bit_xor a b) ≡ bit_xor (times_x a) (times_x b)
times_x_xor a b h k =
    let u : bit_xor a b / 128 ≡ bit_xor (a / 128) (b / 128) = xor_shr a b 7 in
    let v = folded_xor (a / 128) (b / 128) (top_bit a h) (top_bit b k) in
    cc (shifted_xor a b, u, v, xor_swap (2 * a % 256) (2 * b % 256) (27 * (a / 128)) (27 * (b / 128)))

times_x_chosen : (c a : ℕ) → c < 2 → c * times_x a ≡ times_x (c * a)
times_x_chosen c a h = elim (bit_or_none c h) [
  | inl e ↦ rw e (let z : 0 * a ≡ 0 = omega arith in let y : 0 * times_x a ≡ 0 = omega arith in y ∙ ap times_x (sym z))
  | inr e ↦ rw e (let z : 1 * a ≡ a = omega arith in let y : 1 * times_x a ≡ times_x a = omega arith in y ∙ ap times_x (sym z))
]

low : (b : ℕ) → b % 2 < 2
low b = omega arith

pub byte_mul_below : (n a b : ℕ) → a < 256 → byte_mul n a b < 256
unfolding byte_mul
byte_mul_below zero a b h = lit< tt
byte_mul_below (suc n) a b h = xor_lt 8 (b % 2 * a) (times_x (byte_mul n a (b / 2))) (chosen_below (b % 2) a (low b) h) (times_x_below (byte_mul n a (b / 2)) (byte_mul_below n a (b / 2) h))

byte_mul_xor : (n a b c : ℕ) → a < 256 → b < 256 → byte_mul n (bit_xor a b) c ≡ bit_xor (byte_mul n a c) (byte_mul n b c)
unfolding byte_mul
byte_mul_xor zero a b c h k = sym (xor_self 0)
byte_mul_xor (suc n) a b c h k =
    let A = byte_mul n a (c / 2) in let B = byte_mul n b (c / 2) in
    cc (
      chosen_xor (c % 2) a b (low c),
      byte_mul_xor n a b (c / 2) h k,
      times_x_xor A B (byte_mul_below n a (c / 2) h) (byte_mul_below n b (c / 2) k),
      xor_swap (c % 2 * a) (c % 2 * b) (times_x A) (times_x B),
    )

byte_mul_times_x : (n a c : ℕ) → a < 256 → byte_mul n (times_x a) c ≡ times_x (byte_mul n a c)
unfolding byte_mul
byte_mul_times_x zero a c h = refl
byte_mul_times_x (suc n) a c h =
    let A = byte_mul n a (c / 2) in
    cc (
      times_x_chosen (c % 2) a (low c),
      byte_mul_times_x n a (c / 2) h,
      times_x_xor (c % 2 * a) (times_x A) (chosen_below (c % 2) a (low c) h) (times_x_below A (byte_mul_below n a (c / 2) h)),
    )

byte_mul_zero : (n b : ℕ) → byte_mul n 0 b ≡ 0
unfolding byte_mul
byte_mul_zero zero b = refl
byte_mul_zero (suc n) b =
    let e : b % 2 * 0 ≡ 0 = omega arith in
    rw (e, byte_mul_zero n (b / 2)) refl

byte_mul_chosen : (n c a b : ℕ) → c < 2 → c * byte_mul n a b ≡ byte_mul n (c * a) b
byte_mul_chosen n c a b h = elim (bit_or_none c h) [
  | inl e ↦ rw e (let z : 0 * a ≡ 0 = omega arith in let y : 0 * byte_mul n a b ≡ 0 = omega arith in y ∙ sym (ap (λ v. byte_mul n v b) z ∙ byte_mul_zero n b))
  | inr e ↦ rw e (let z : 1 * a ≡ a = omega arith in let y : 1 * byte_mul n a b ≡ byte_mul n a b = omega arith in y ∙ ap (λ v. byte_mul n v b) (sym z))
]

-- the factors of a product may change places, but for the first
byte_mul_turned : (n m a b c : ℕ) → a < 256 → byte_mul n (byte_mul m a b) c ≡ byte_mul m (byte_mul n a c) b
unfolding byte_mul
byte_mul_turned zero m a b c h = sym (byte_mul_zero m b)
byte_mul_turned (suc n) m a b c h =
    let A = byte_mul n a (c / 2) in
    let small = byte_mul_below n a (c / 2) h in
    cc (
      byte_mul_chosen m (c % 2) a b (low c),
      byte_mul_turned n m a b (c / 2) h,
      byte_mul_times_x m A b small,
      byte_mul_xor m (c % 2 * a) (times_x A) b (chosen_below (c % 2) a (low c) h) (times_x_below A small),
    )

one_times : (b : ℕ) → b < 256 → byte_mul 8 1 b ≡ b
unfolding byte_mul
one_times b h = eqb-true (byte_mul 8 1 b) b (below_at 256 (λ k. nat_eq (byte_mul 8 1 k) k) refl b h)

byte_mul_comm : (a b : ℕ) → a < 256 → b < 256 → byte_mul 8 a b ≡ byte_mul 8 b a
byte_mul_comm a b h k = cc (one_times a h, one_times b k, byte_mul_turned 8 8 1 a b (lit< tt))

byte_mul_assoc : (a b c : ℕ) → a < 256 → b < 256 → c < 256 → byte_mul 8 (byte_mul 8 a b) c ≡ byte_mul 8 a (byte_mul 8 b c)
byte_mul_assoc a b c h k l =
    cc (byte_mul_comm a b h k, byte_mul_turned 8 8 b a c k, byte_mul_comm a (byte_mul 8 b c) h (byte_mul_below 8 b c k))

byte : (a : ℕ) → a < 256 → a % 256 ≡ a
byte a h = omega arith

xor_byte : (a b : ℕ) → a < 256 → b < 256 → bit_xor a b % 256 ≡ bit_xor a b
xor_byte a b h k = byte (bit_xor a b) (xor_lt 8 a b h k)

mul_byte : (a b : ℕ) → a < 256 → byte_mul 8 a b % 256 ≡ byte_mul 8 a b
mul_byte a b h = byte (byte_mul 8 a b) (byte_mul_below 8 a b h)

pub gf256_add_value : (x y : Gf256) → (gf256_ring.add x y).value ≡ bit_xor x.value y.value
unfolding gf256_ring
gf256_add_value x y = xor_byte x.value y.value x.in_range y.in_range

pub gf256_mul_value : (x y : Gf256) → (gf256_ring.mul x y).value ≡ byte_mul 8 x.value y.value
unfolding gf256_ring
gf256_mul_value x y = mul_byte x.value y.value x.in_range

zero_value : gf256_ring.zero.value ≡ 0
unfolding gf256_ring
zero_value = refl

one_value : gf256_ring.one.value ≡ 1
unfolding gf256_ring
one_value = refl

neg_value : (x : Gf256) → (gf256_ring.neg x).value ≡ x.value
unfolding gf256_ring
neg_value x = refl

pub gf256_laws : RingLaws gf256_ring
gf256_laws = let r = gf256_ring in record {
  add_comm = λ x y. same_gf256 (r.add x y) (r.add y x) (cc (gf256_add_value x y, gf256_add_value y x, xor_comm x.value y.value));
  add_assoc = λ x y z. same_gf256 (r.add (r.add x y) z) (r.add x (r.add y z))
      (cc (gf256_add_value (r.add x y) z, gf256_add_value x y, gf256_add_value x (r.add y z), gf256_add_value y z, xor_assoc x.value y.value z.value));
  add_zero = λ x. same_gf256 (r.add x r.zero) x (cc (gf256_add_value x r.zero, zero_value, xor_zero_r x.value));
  add_neg = λ x. same_gf256 (r.add x (r.neg x)) r.zero (cc (gf256_add_value x (r.neg x), neg_value x, zero_value, xor_self x.value));
  mul_comm = λ x y. same_gf256 (r.mul x y) (r.mul y x) (cc (gf256_mul_value x y, gf256_mul_value y x, byte_mul_comm x.value y.value x.in_range y.in_range));
  mul_assoc = λ x y z. same_gf256 (r.mul (r.mul x y) z) (r.mul x (r.mul y z))
      (cc (gf256_mul_value (r.mul x y) z, gf256_mul_value x y, gf256_mul_value x (r.mul y z), gf256_mul_value y z, byte_mul_assoc x.value y.value z.value x.in_range y.in_range z.in_range));
  mul_one = λ x. same_gf256 (r.mul x r.one) x
      (cc (gf256_mul_value x r.one, one_value, byte_mul_comm x.value 1 x.in_range (lit< tt), one_times x.value x.in_range));
  mul_add = λ x y z. same_gf256 (r.mul x (r.add y z)) (r.add (r.mul x y) (r.mul x z))
      (cc (
        gf256_mul_value x (r.add y z),
        gf256_add_value y z,
        gf256_add_value (r.mul x y) (r.mul x z),
        gf256_mul_value x y,
        gf256_mul_value x z,
        byte_mul_comm x.value (bit_xor y.value z.value) x.in_range (xor_lt 8 y.value z.value y.in_range z.in_range),
        byte_mul_comm x.value y.value x.in_range y.in_range,
        byte_mul_comm x.value z.value x.in_range z.in_range,
        byte_mul_xor 8 y.value z.value x.value y.in_range z.in_range,
      ));
}

parity : (n : ℕ) → bit_xor 1 (n % 2) ≡ suc n % 2
parity n = elim (bit_or_none (n % 2) (low n)) [
  | inl e ↦ let f : suc n % 2 ≡ 1 = omega arith in rw (e, f) refl
  | inr e ↦ let f : suc n % 2 ≡ 0 = omega arith in rw (e, f) refl
]

pub gf256_of_nat_value : (n : ℕ) → (of_nat gf256_ring n).value ≡ n % 2
unfolding of_nat
gf256_of_nat_value zero = zero_value
gf256_of_nat_value (suc n) = cc (gf256_add_value gf256_ring.one (of_nat gf256_ring n), one_value, gf256_of_nat_value n, parity n)

pub gf256_of_nat : (n : ℕ) → of_byte (n % 2) ≡ of_nat gf256_ring n
gf256_of_nat n = same_gf256 (of_byte (n % 2)) (of_nat gf256_ring n) (byte (n % 2) (omega arith) ∙ sym (gf256_of_nat_value n))

pub gf256_of_byte : (x : Gf256) (n : ℕ) → x.value ≡ n → x ≡ of_byte n
gf256_of_byte x n e = same_gf256 x (of_byte n) (sym (byte x.value x.in_range) ∙ ap (λ k. k % 256) e)

-- one turn of the product from the highest bit
pub byte_mul_turn : (k a b : ℕ) → k < 8 → bit_xor (times_x (byte_mul k a (b / 2 ^ (8 - k)))) (a * (b / 2 ^ (7 - k) % 2)) ≡ byte_mul (k + 1) a (b / 2 ^ (8 - (k + 1)))
unfolding byte_mul
byte_mul_turn k a b h =
    let e : 8 - (k + 1) ≡ 7 - k = omega arith in
    let f : 8 - k ≡ (7 - k) + 1 = omega arith in
    let g : b / 2 ^ (8 - k) ≡ b / 2 ^ (7 - k) / 2 = ap (λ n. b / 2 ^ n) f ∙ sym (shr-shr b (7 - k) 1) in
    let c : a * (b / 2 ^ (7 - k) % 2) ≡ b / 2 ^ (7 - k) % 2 * a = omega arith in
    rw (e, add-one) (cc (g, c, xor_comm (times_x (byte_mul k a (b / 2 ^ (7 - k) / 2))) (b / 2 ^ (7 - k) % 2 * a)))

pub byte_mul_start : (a b : ℕ) → 0 ≡ byte_mul 0 a b
unfolding byte_mul
byte_mul_start a b = refl

-- x^8 is x^4 + x^3 + x + 1
pub gf256_x_to_8 : let x = of_byte 2 in let p = pow gf256_ring x in p 8 ≡ gf256_ring.add (p 4) (gf256_ring.add (p 3) (gf256_ring.add x gf256_ring.one))
unfolding pow byte_mul gf256_ring
gf256_x_to_8 = same_gf256 _ _ refl

-- the sum over i below 8 of bit i of n times x^i
abbrev pub sum_of_bits : ℕ → Gf256
sum_of_bits n = total gf256_ring 8 (λ i. gf256_ring.mul (of_byte (n / 2 ^ i % 2)) (pow gf256_ring (of_byte 2) i))

bits_value : (n : ℕ) → n < 256 → (sum_of_bits n).value ≡ n
unfolding pow byte_mul gf256_ring
bits_value n h = eqb-true (sum_of_bits n).value n (below_at 256 (λ k. nat_eq (sum_of_bits k).value k) refl n h)

-- a byte is the sum of its bits times the powers of x
pub byte_is_sum : (b : Gf256) → b ≡ sum_of_bits b.value
byte_is_sum b = same_gf256 b (sum_of_bits b.value) (sym (bits_value b.value b.in_range))
