-- Inverses in the field of 256 elements, by a computed test of each byte.
use Rattle.std.proofs.Common.{◌≡◌, ◌≢◌, ℕ, zero, suc, ◌*◌, ◌/◌, ◌%◌, ◌^◌, ◌<◌, ◌↔◌, Bool, true, false, nat_eq, ◌||◌, refl, sym, ◌∙◌, ap, arith, lit<}
use Rattle.std.specs.Prelude.{IsTrue}
use Rattle.std.proofs.Math.Nat.{pow-suc}
use Rattle.std.proofs.lemmas.Bool.{eqb-true, eq-eqb}
use Rattle.std.proofs.lemmas.Bool.Decides.{nat_tests}
use Rattle.p3_field.specs.declared.gf256.Gf256.{Gf256}
use Rattle.p3_field.specs.Ring.{pow}
use Rattle.p3_field.specs.Field.{FieldLaws}
use Rattle.p3_field.specs.Gf256.{byte_mul, of_byte, gf256_ring, gf256_inv}
use Rattle.p3_field.specs.Laws.Algebra.{one_mul, odd_step, even_step}
use Rattle.p3_field.specs.Laws.Order.{all_below, below_at}
use Rattle.p3_field.specs.Laws.Gf256Laws.{same_gf256, gf256_laws, gf256_mul_value}

abbrev turn : Bool → ℕ → ℕ → ℕ
turn true a v = byte_mul 8 a v
turn false a v = a

-- a * v ^ n of bytes by square and multiply, in `fuel` turns
abbrev fast : ℕ → ℕ → ℕ → ℕ → ℕ
fast zero a v n = a
fast (suc fuel) a v n = fast fuel (turn (nat_eq (n % 2) 1) a v) (byte_mul 8 v v) (n / 2)

no_power : (a x : Gf256) → gf256_ring.mul a (pow gf256_ring x 0) ≡ a
unfolding pow
no_power a x = gf256_laws.mul_one a

turn_is : (n : ℕ) (a x : Gf256) (b : Bool) → nat_eq (n % 2) 1 ≡ b → (c : Gf256) × (c.value ≡ turn b a.value x.value) × (gf256_ring.mul c (pow gf256_ring (gf256_ring.mul x x) (n / 2)) ≡ gf256_ring.mul a (pow gf256_ring x n))
turn_is n a x true e = (gf256_ring.mul a x, gf256_mul_value a x, odd_step gf256_ring gf256_laws a x n (eqb-true (n % 2) 1 e))
turn_is n a x false e = let h : n % 2 ≢ 1 = grind (arith, nat_tests) in (a, refl, even_step gf256_ring gf256_laws a x n h)

fast_value : (fuel : ℕ) (a x : Gf256) (n : ℕ) → n < 2 ^ fuel → (gf256_ring.mul a (pow gf256_ring x n)).value ≡ fast fuel a.value x.value n
fast_value zero a x n h =
    let e : n ≡ 0 = omega arith in
    ap (λ (v : Gf256). v.value) (ap (λ k. gf256_ring.mul a (pow gf256_ring x k)) e ∙ no_power a x)
fast_value (suc fuel) a x n h =
    let s : 2 ^ suc fuel ≡ 2 * 2 ^ fuel = rw pow-suc (omega arith) in
    let small : n / 2 < 2 ^ fuel = omega (arith, s) in
    let (c, v, e) = turn_is n a x (nat_eq (n % 2) 1) refl in
    ap (λ (v : Gf256). v.value) (sym e)
    ∙ (fast_value fuel c (gf256_ring.mul x x) (n / 2) small
    ∙ (ap (λ k. fast fuel k (gf256_ring.mul x x).value (n / 2)) v
    ∙ ap (λ k. fast fuel (turn (nat_eq (n % 2) 1) a.value x.value) k (n / 2)) (gf256_mul_value x x)))

one_value : gf256_ring.one.value ≡ 1
unfolding gf256_ring
one_value = refl

inverse_value : (x : Gf256) → (gf256_inv x).value ≡ fast 8 1 x.value 254
unfolding gf256_inv
inverse_value x =
    ap (λ (v : Gf256). v.value) (sym (one_mul gf256_ring gf256_laws (pow gf256_ring x 254)))
    ∙ (fast_value 8 gf256_ring.one x 254 (lit< tt) ∙ ap (λ k. fast 8 k x.value 254) one_value)

abbrev inverts : ℕ → Bool
inverts v = nat_eq v 0 || nat_eq (byte_mul 8 v (fast 8 1 v 254)) 1

each_inverts : all_below 256 inverts ≡ true
unfolding byte_mul
each_inverts = refl

not_first : (a b : Bool) → (a || b) ≡ true → a ≡ false → b ≡ true
not_first true b e f = cc
not_first false b e f = e

byte_inverse : (v : ℕ) → v < 256 → v ≢ 0 → byte_mul 8 v (fast 8 1 v 254) ≡ 1
byte_inverse v h nz =
    let f : nat_eq v 0 ≡ false = grind (arith, nat_tests) in
    eqb-true (byte_mul 8 v (fast 8 1 v 254)) 1 (not_first (nat_eq v 0) _ (below_at 256 inverts each_inverts v h) f)

pub gf256_zero : (x : Gf256) → (x.value ≡ 0) ↔ (x ≡ gf256_ring.zero)
unfolding gf256_ring
gf256_zero x = (λ e. same_gf256 x (of_byte 0) e, λ e. ap (λ v. v.value) e)

pub gf256_is_zero : (x : Gf256) → IsTrue (nat_eq x.value 0) ↔ (x ≡ gf256_ring.zero)
gf256_is_zero x = (
  (λ t. let e : x.value ≡ 0 = grind (arith, nat_tests) in (gf256_zero x).0 e),
  (λ z. let e : x.value ≡ 0 = (gf256_zero x).1 z in grind (arith, nat_tests)),
)

gf256_one_differs : gf256_ring.one ≡ gf256_ring.zero → ⊥
unfolding gf256_ring
gf256_one_differs e = let f : ◌≡◌ {A = ℕ} 1 0 = ap (λ (v : Gf256). v.value) e in omega arith

pub gf256_field_laws : FieldLaws gf256_ring gf256_inv
gf256_field_laws = record {
  one_differs = gf256_one_differs;
  mul_inv = λ x h. same_gf256 (gf256_ring.mul x (gf256_inv x)) gf256_ring.one
      (gf256_mul_value x (gf256_inv x) ∙ (ap (byte_mul 8 x.value) (inverse_value x) ∙ (byte_inverse x.value x.in_range (λ e. h ((gf256_zero x).0 e)) ∙ sym one_value)));
}

pub gf256_three : of_byte 3 ≡ gf256_ring.zero → ⊥
unfolding gf256_ring
gf256_three e = let f : ◌≡◌ {A = ℕ} 3 0 = ap (λ (v : Gf256). v.value) e in omega arith

pub gf256_same_eq : (x y : Gf256) → nat_eq x.value y.value ≡ true → x ≡ y
gf256_same_eq x y e = same_gf256 x y (eqb-true x.value y.value e)

pub gf256_eq_same : (x : Gf256) → nat_eq x.value x.value ≡ true
gf256_eq_same x = eq-eqb x.value x.value refl
