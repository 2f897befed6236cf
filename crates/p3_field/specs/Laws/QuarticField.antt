-- Inverses modulo x^4 - 11: the product of a value with its adjoint is its norm, a value of the base that is zero for zero alone.
use Rattle.std.proofs.Common.{◌≡◌, ℕ, List, [], ◌∷◌, ◌⊎◌, inl, inr, Bool, true, false, nat_eq, ◌&&◌, ◌↔◌, ap, subst, refl, sym, ◌∙◌, arith}
use Rattle.std.specs.Prelude.{IsTrue}
use Rattle.std.proofs.lemmas.Bool.{eqb-true, eq-eqb}
use Rattle.std.proofs.lemmas.Bool.Decides.{eqb_tells}
use Rattle.p3_field.specs.Laws.Algebra.{mul_zero, zero_add, mul_swap, neg_mul_neg, one_mul}
use Rattle.p3_field.specs.declared.baby_bear.BabyBear.{BabyBear}
use Rattle.p3_field.specs.declared.quartic.QuarticExtension.{QuarticExtension}
use Rattle.p3_field.specs.Ring.{Ring, pow, sub}
use Rattle.p3_field.specs.Field.{FieldLaws}
use Rattle.p3_field.specs.Laws.QuarticRings.{conjugate4, mul_adjoint, mul_scaled4, even_norm_is, over_even_is}
use Rattle.p3_field.specs.Laws.Solver.{Expr, var, expressions, plus, times, minus, solve}
use Rattle.p3_field.specs.BabyBear.{reduce, baby_bear_ring, baby_bear_inv}
use Rattle.p3_field.specs.Laws.BabyBearLaws.{baby_bear_laws, same_baby_bear}
use Rattle.p3_field.specs.Laws.BabyBearField.{baby_bear_field_laws, baby_bear_zero, baby_bear_31}
use Rattle.p3_field.specs.Laws.BabyBearOrder.{one_not_zero, eleven_no_square, no_zero_product, inverse_power}
use Rattle.p3_field.specs.Quartic.{quartic_ring, to_four_coefficients, of_four_coefficients, of_baby_bear_value, quartic_norm, quartic_adjoint, scaled, quartic_inv}
use Rattle.p3_field.specs.Laws.QuarticLaws.{of_baby_bear_one, quartic_same}

-- x with its odd coefficients negated
abbrev pub conjugate : QuarticExtension → QuarticExtension
conjugate x = of_four_coefficients (conjugate4 baby_bear_ring (to_four_coefficients x))

-- a + b x^2
abbrev pub even : BabyBear → BabyBear → QuarticExtension
even a b = record { c0 = a; c1 = baby_bear_ring.zero; c2 = b; c3 = baby_bear_ring.zero }

-- the norm from the product e of x with its conjugate
pub norm_of_even : (x e : QuarticExtension) → e ≡ quartic_ring.mul x (conjugate x) → sub baby_bear_ring (baby_bear_ring.mul e.c0 e.c0) (baby_bear_ring.mul (reduce 11) (baby_bear_ring.mul e.c2 e.c2)) ≡ quartic_norm x
unfolding quartic_ring quartic_norm
norm_of_even x e h =
    ap (λ (v : QuarticExtension). sub baby_bear_ring (baby_bear_ring.mul v.c0 v.c0) (baby_bear_ring.mul (reduce 11) (baby_bear_ring.mul v.c2 v.c2))) h
    ∙ even_norm_is baby_bear_ring baby_bear_laws (reduce 11) (to_four_coefficients x)

-- the inverse from the same product
pub inverse_of_even : (x e : QuarticExtension) (k : BabyBear) → e ≡ quartic_ring.mul x (conjugate x) → k ≡ baby_bear_inv (quartic_norm x) →
    quartic_ring.mul (conjugate x) (even (baby_bear_ring.mul k e.c0) (baby_bear_ring.neg (baby_bear_ring.mul k e.c2))) ≡ quartic_inv x
unfolding quartic_ring quartic_adjoint quartic_inv
inverse_of_even x e k h n =
    ap (λ (v : QuarticExtension). quartic_ring.mul (conjugate x) (even (baby_bear_ring.mul k v.c0) (baby_bear_ring.neg (baby_bear_ring.mul k v.c2)))) h
    ∙ (ap of_four_coefficients (over_even_is baby_bear_ring baby_bear_laws (reduce 11) k (to_four_coefficients x)) ∙ ap (λ v. scaled v (quartic_adjoint x)) n)

decide_zero : (x : BabyBear) → (x ≡ baby_bear_ring.zero) ⊎ (x ≡ baby_bear_ring.zero → ⊥)
decide_zero x = elim (eqb_tells x.value 0) [
  | inl t ↦ inl ((baby_bear_zero x).0 t.1)
  | inr t ↦ inr (λ e. t.1 ((baby_bear_zero x).1 e))
]

w : BabyBear
w = reduce 11

ratio_square : (s t i : BabyBear) → baby_bear_ring.mul t i ≡ baby_bear_ring.one → baby_bear_ring.mul s s ≡ baby_bear_ring.mul w (baby_bear_ring.mul t t) → baby_bear_ring.mul (baby_bear_ring.mul s i) (baby_bear_ring.mul s i) ≡ w
ratio_square s t i one e =
    let r = baby_bear_ring in
    let v = s ∷ t ∷ i ∷ w ∷ [] in
    let S = var 0 in let T = var 1 in let I = var 2 in let W = var 3 in
    let a : r.mul (r.mul s i) (r.mul s i) ≡ r.mul (r.mul s s) (r.mul i i) = solve r baby_bear_laws v (times (times S I) (times S I)) (times (times S S) (times I I)) refl in
    let b : r.mul (r.mul w (r.mul t t)) (r.mul i i) ≡ r.mul w (r.mul (r.mul t i) (r.mul t i)) = solve r baby_bear_laws v (times (times W (times T T)) (times I I)) (times W (times (times T I) (times T I))) refl in
    cc (a, b, e, one, baby_bear_laws.mul_one w, baby_bear_laws.mul_one r.one)

-- 11 is no square, so s s = 11 t t for zeros alone
ratio : (s t : BabyBear) → baby_bear_ring.mul s s ≡ baby_bear_ring.mul w (baby_bear_ring.mul t t) → (s ≡ baby_bear_ring.zero) × (t ≡ baby_bear_ring.zero)
unfolding w
ratio s t e = elim (decide_zero t) [
  | inl z ↦
      let f : baby_bear_ring.mul s s ≡ baby_bear_ring.zero = cc (e, z, mul_zero baby_bear_ring baby_bear_laws baby_bear_ring.zero, mul_zero baby_bear_ring baby_bear_laws w) in
      elim (decide_zero s) [ inl y ↦ (y, z) | inr y ↦ (no_zero_product s s f y, z) ]
  | inr n ↦
      let i = pow baby_bear_ring t 2013265919 in
      absurd (eleven_no_square (baby_bear_ring.mul s i) (ratio_square s t i (inverse_power t n) e))
]

same_from_sub : (x y : BabyBear) → baby_bear_ring.add x (baby_bear_ring.neg y) ≡ baby_bear_ring.zero → x ≡ y
same_from_sub x y e =
    let r = baby_bear_ring in
    let a : r.add (r.add x (r.neg y)) y ≡ x = solve r baby_bear_laws (x ∷ y ∷ []) (plus (plus (var 0) (minus (var 1))) (var 1)) (var 0) refl in
    cc (a, e, zero_add r baby_bear_laws y)

-- a square root of minus one
root : BabyBear
root = reduce 1728404513

root_square : baby_bear_ring.mul root root ≡ baby_bear_ring.neg baby_bear_ring.one
unfolding root baby_bear_ring
root_square = same_baby_bear _ _ refl

root_not_zero : root ≡ baby_bear_ring.zero → ⊥
unfolding root baby_bear_ring
root_not_zero e = let f : ◌≡◌ {A = ℕ} 1728404513 0 = ap (λ (v : BabyBear). v.value) e in omega arith

abbrev over4 : {A : Type 0} → Ring A → A → A → A → A → A → A × A × A × A × A × A
over4 r w a b c d =
    let two = r.add r.one r.one in (
      r.add (r.mul a a) (r.mul w (r.mul c c)),
      r.mul two (r.mul w (r.mul b d)),
      r.mul two (r.mul a c),
      r.add (r.mul b b) (r.mul w (r.mul d d)),
      r.add (r.mul a a) (r.neg (r.mul w (r.mul c c))),
      r.add (r.mul b b) (r.neg (r.mul w (r.mul d d))),
    )

module _ (a b c d : BabyBear) where
  abbrev K : BabyBear × BabyBear × BabyBear × BabyBear × BabyBear × BabyBear
  K = over4 baby_bear_ring w a b c d

  abbrev KE : Expr × Expr × Expr × Expr × Expr × Expr
  KE = over4 expressions (var 4) (var 0) (var 1) (var 2) (var 3)

  abbrev vs : List BabyBear
  vs = a ∷ b ∷ c ∷ d ∷ w ∷ root ∷ []

  first : baby_bear_ring.mul K.4 K.4 ≡ baby_bear_ring.add (baby_bear_ring.mul K.0 K.0) (baby_bear_ring.neg (baby_bear_ring.mul w (baby_bear_ring.mul K.2 K.2)))
  first = solve baby_bear_ring baby_bear_laws vs (times KE.4 KE.4) (plus (times KE.0 KE.0) (minus (times (var 4) (times KE.2 KE.2)))) refl

  second : baby_bear_ring.add (baby_bear_ring.mul K.1 K.1) (baby_bear_ring.neg (baby_bear_ring.mul w (baby_bear_ring.mul K.3 K.3))) ≡ baby_bear_ring.neg (baby_bear_ring.mul w (baby_bear_ring.mul K.5 K.5))
  second = solve baby_bear_ring baby_bear_laws vs (plus (times KE.1 KE.1) (minus (times (var 4) (times KE.3 KE.3)))) (minus (times (var 4) (times KE.5 KE.5))) refl

  third : baby_bear_ring.mul (baby_bear_ring.mul root K.4) (baby_bear_ring.mul root K.4) ≡ baby_bear_ring.mul (baby_bear_ring.mul root root) (baby_bear_ring.mul K.4 K.4)
  third = mul_swap baby_bear_ring baby_bear_laws root K.4 root K.4

  all_zero : K.0 ≡ K.1 → K.2 ≡ K.3 → (a ≡ baby_bear_ring.zero) × (b ≡ baby_bear_ring.zero) × (c ≡ baby_bear_ring.zero) × (d ≡ baby_bear_ring.zero)
  all_zero p q =
      let r = baby_bear_ring in
      let T = r.mul w (r.mul K.5 K.5) in
      let e : r.mul K.4 K.4 ≡ r.neg T = cc (first, second, p, q) in
      let f : r.mul (r.mul root K.4) (r.mul root K.4) ≡ T = cc (third, root_square, e, neg_mul_neg r baby_bear_laws r.one T, one_mul r baby_bear_laws T) in
      let g = ratio (r.mul root K.4) K.5 f in
      let u : K.4 ≡ r.zero = no_zero_product root K.4 g.0 root_not_zero in
      let x = ratio a c (same_from_sub (r.mul a a) (r.mul w (r.mul c c)) u) in
      let y = ratio b d (same_from_sub (r.mul b b) (r.mul w (r.mul d d)) g.1) in
      (x.0, y.0, x.1, y.1)

pub norm_zero : (x : QuarticExtension) → quartic_norm x ≡ baby_bear_ring.zero → x ≡ quartic_ring.zero
unfolding quartic_norm quartic_ring w
norm_zero x e =
    let r = baby_bear_ring in
    let a = x.c0 in let b = x.c1 in let c = x.c2 in let d = x.c3 in
    let k = K a b c d in
    let A = r.add (r.mul a a) (r.add (r.mul w (r.mul c c)) (r.neg k.1)) in
    let B = r.add k.2 (r.neg k.3) in
    let z = ratio A B (same_from_sub (r.mul A A) (r.mul w (r.mul B B)) e) in
    let p : r.add k.0 (r.neg k.1) ≡ r.zero = baby_bear_laws.add_assoc (r.mul a a) (r.mul w (r.mul c c)) (r.neg k.1) ∙ z.0 in
    let all = all_zero a b c d (same_from_sub k.0 k.1 p) (same_from_sub k.2 k.3 z.1) in
    λ i. record { c0 = all.0 i; c1 = all.1 i; c2 = all.2 i; c3 = all.3 i }

mul_scaled : (k : BabyBear) (x y : QuarticExtension) → quartic_ring.mul x (scaled k y) ≡ scaled k (quartic_ring.mul x y)
unfolding quartic_ring
mul_scaled k x y = ap of_four_coefficients (mul_scaled4 baby_bear_ring baby_bear_laws (reduce 11) k (to_four_coefficients x) (to_four_coefficients y))

quartic_one_differs : quartic_ring.one ≡ quartic_ring.zero → ⊥
unfolding quartic_ring
quartic_one_differs e = one_not_zero (ap (λ (v : QuarticExtension). v.c0) e)

scaled_base : (k n : BabyBear) → scaled k (of_baby_bear_value n) ≡ of_baby_bear_value (baby_bear_ring.mul k n)
scaled_base k n = let z = mul_zero baby_bear_ring baby_bear_laws k in λ i. record { c0 = baby_bear_ring.mul k n; c1 = z i; c2 = z i; c3 = z i }

times_adjoint : (x : QuarticExtension) → quartic_ring.mul x (quartic_adjoint x) ≡ of_baby_bear_value (quartic_norm x)
unfolding quartic_ring quartic_adjoint quartic_norm
times_adjoint x = ap of_four_coefficients (mul_adjoint baby_bear_ring baby_bear_laws (reduce 11) (to_four_coefficients x))

pub quartic_field_laws : FieldLaws quartic_ring quartic_inv
unfolding quartic_inv
quartic_field_laws = record {
  one_differs = quartic_one_differs;
  mul_inv = λ x h.
      let n = quartic_norm x in
      let k = baby_bear_inv n in
      let one : baby_bear_ring.mul k n ≡ baby_bear_ring.one = baby_bear_laws.mul_comm k n ∙ baby_bear_field_laws.mul_inv n (λ e. h (norm_zero x e)) in
      mul_scaled k x (quartic_adjoint x) ∙ (ap (scaled k) (times_adjoint x) ∙ (scaled_base k n ∙ (ap of_baby_bear_value one ∙ of_baby_bear_one)));
}

pub quartic_31 : of_baby_bear_value (reduce 31) ≡ quartic_ring.zero → ⊥
unfolding quartic_ring
quartic_31 e = baby_bear_31 (ap (λ (v : QuarticExtension). v.c0) e)

abbrev quartic_eq : QuarticExtension → QuarticExtension → Bool
quartic_eq x y = nat_eq x.c0.value y.c0.value && (nat_eq x.c1.value y.c1.value && (nat_eq x.c2.value y.c2.value && nat_eq x.c3.value y.c3.value))

both_true : (a b : Bool) → (a && b) ≡ true → (a ≡ true) × (b ≡ true)
both_true true b e = (refl, e)
both_true false b e = cc

pub quartic_eq_same : (x y : QuarticExtension) → quartic_eq x y ≡ true → x ≡ y
quartic_eq_same x y e =
    let a = both_true (nat_eq x.c0.value y.c0.value) _ e in
    let b = both_true (nat_eq x.c1.value y.c1.value) _ a.1 in
    let c = both_true (nat_eq x.c2.value y.c2.value) _ b.1 in
    quartic_same x y (eqb-true x.c0.value y.c0.value a.0) (eqb-true x.c1.value y.c1.value b.0) (eqb-true x.c2.value y.c2.value c.0) (eqb-true x.c3.value y.c3.value c.1)

pub quartic_same_eq : (x : QuarticExtension) → quartic_eq x x ≡ true
quartic_same_eq x = rw (eq-eqb x.c0.value x.c0.value refl, eq-eqb x.c1.value x.c1.value refl, eq-eqb x.c2.value x.c2.value refl, eq-eqb x.c3.value x.c3.value refl)

zeros_are : (a b c d : BabyBear) → IsTrue (nat_eq a.value 0 && (nat_eq b.value 0 && (nat_eq c.value 0 && nat_eq d.value 0))) → (a.value ≡ 0) × (b.value ≡ 0) × (c.value ≡ 0) × (d.value ≡ 0)
zeros_are a b c d t =
    let a0 = both_true (nat_eq a.value 0) _ t in
    let b0 = both_true (nat_eq b.value 0) _ a0.1 in
    let c0 = both_true (nat_eq c.value 0) _ b0.1 in
    (eqb-true a.value 0 a0.0, eqb-true b.value 0 b0.0, eqb-true c.value 0 c0.0, eqb-true d.value 0 c0.1)

-- equality with zero, as the derived comparison tells it
pub quartic_is_zero : (x : QuarticExtension) → IsTrue (nat_eq x.c0.value 0 && (nat_eq x.c1.value 0 && (nat_eq x.c2.value 0 && nat_eq x.c3.value 0))) ↔ (x ≡ quartic_ring.zero)
unfolding quartic_ring baby_bear_ring
quartic_is_zero x = (
  (λ t. let z = zeros_are x.c0 x.c1 x.c2 x.c3 t in quartic_same x quartic_ring.zero z.0 z.1 z.2 z.3),
  (λ e. subst (λ (v : QuarticExtension). IsTrue (nat_eq v.c0.value 0 && (nat_eq v.c1.value 0 && (nat_eq v.c2.value 0 && nat_eq v.c3.value 0)))) (sym e) refl),
)
