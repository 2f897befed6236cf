-- 31 has order p - 1, so each value but zero is one of its powers.
use Rattle.std.proofs.Common.{◌≡◌, ◌≢◌, ℕ, zero, suc, ◌+◌, ◌*◌, ◌/◌, ◌%◌, ◌^◌, ◌≤◌, ◌<◌, ◌-◌, ◌⊎◌, inl, inr, Bool, true, false, nat_eq, ◌||◌, not, refl, sym, ◌∙◌, ap, arith, lit<}
use Rattle.std.proofs.Math.Nat.{pow-suc}
use Rattle.std.proofs.lemmas.Bool.{eqb-true, eq-eqb, cases_order}
use Rattle.std.proofs.lemmas.Bool.Decides.{eqb_tells, nat_tests}
use Rattle.p3_field.specs.declared.baby_bear.BabyBear.{BabyBear}
use Rattle.p3_field.specs.Ring.{pow}
use Rattle.p3_field.specs.Laws.Algebra.{pow_add, zero_mul, mul_zero, one_mul, pow_square, odd_step, even_step}
use Rattle.p3_field.specs.BabyBear.{reduce, baby_bear_ring}
use Rattle.p3_field.specs.Laws.BabyBearLaws.{same_baby_bear, baby_bear_laws}
use Rattle.p3_field.specs.Laws.Order.{onto, pow_times, full_times, common, strip, all_below, below_at}

abbrev pub generator_31 : BabyBear
generator_31 = reduce 31

abbrev pub turn : Bool → ℕ → ℕ → ℕ
turn true a v = (a * v) % 2013265921
turn false a v = a

-- a * v ^ n modulo p by square and multiply, in `fuel` turns
abbrev pub fast : ℕ → ℕ → ℕ → ℕ → ℕ
fast zero a v n = a
fast (suc fuel) a v n = fast fuel (turn (nat_eq (n % 2) 1) a v) ((v * v) % 2013265921) (n / 2)

no_power : (a x : BabyBear) → baby_bear_ring.mul a (pow baby_bear_ring x 0) ≡ a
unfolding pow
no_power a x = baby_bear_laws.mul_one a

turn_is : (n : ℕ) (a x : BabyBear) (b : Bool) → nat_eq (n % 2) 1 ≡ b → (c : BabyBear) × (c.value ≡ turn b a.value x.value) × (baby_bear_ring.mul c (pow baby_bear_ring (baby_bear_ring.mul x x) (n / 2)) ≡ baby_bear_ring.mul a (pow baby_bear_ring x n))
unfolding baby_bear_ring
turn_is n a x true e = (baby_bear_ring.mul a x, refl, odd_step baby_bear_ring baby_bear_laws a x n (eqb-true (n % 2) 1 e))
turn_is n a x false e = let h : n % 2 ≢ 1 = grind (arith, nat_tests) in (a, refl, even_step baby_bear_ring baby_bear_laws a x n h)

square_value : (x : BabyBear) → (baby_bear_ring.mul x x).value ≡ (x.value * x.value) % 2013265921
unfolding baby_bear_ring
square_value x = refl

fast_value : (fuel : ℕ) (a x : BabyBear) (n : ℕ) → n < 2 ^ fuel → (baby_bear_ring.mul a (pow baby_bear_ring x n)).value ≡ fast fuel a.value x.value n
fast_value zero a x n h =
    let e : n ≡ 0 = omega arith in
    ap (λ (v : BabyBear). v.value) (ap (λ k. baby_bear_ring.mul a (pow baby_bear_ring x k)) e ∙ no_power a x)
fast_value (suc fuel) a x n h =
    let s : 2 ^ suc fuel ≡ 2 * 2 ^ fuel = rw pow-suc (omega arith) in
    let small : n / 2 < 2 ^ fuel = omega (arith, s) in
    let (c, v, e) = turn_is n a x (nat_eq (n % 2) 1) refl in
    ap (λ (v : BabyBear). v.value) (sym e)
    ∙ (fast_value fuel c (baby_bear_ring.mul x x) (n / 2) small
    ∙ (ap (λ k. fast fuel k (baby_bear_ring.mul x x).value (n / 2)) v
    ∙ ap (λ k. fast fuel (turn (nat_eq (n % 2) 1) a.value x.value) k (n / 2)) (square_value x)))

abbrev pub of_g : ℕ → BabyBear
of_g n = pow baby_bear_ring generator_31 n

-- the powers of 31 as numbers
pub g_value : (n : ℕ) → n < 2 ^ 31 → (of_g n).value ≡ fast 31 1 31 n
unfolding baby_bear_ring
g_value n h = ap (λ (v : BabyBear). v.value) (sym (one_mul baby_bear_ring baby_bear_laws (of_g n))) ∙ fast_value 31 (reduce 1) generator_31 n h

abbrev IsFull : ℕ → Type 0
IsFull n = of_g n ≡ baby_bear_ring.one

one_value : (x : BabyBear) → x ≡ baby_bear_ring.one → x.value ≡ 1
unfolding baby_bear_ring
one_value x e = ap (λ (v : BabyBear). v.value) e

value_one : (x : BabyBear) → x.value ≡ 1 → x ≡ baby_bear_ring.one
unfolding baby_bear_ring
value_one x e = same_baby_bear x (reduce 1) e

full_q : IsFull 2013265920
full_q = value_one (of_g 2013265920) (g_value 2013265920 (lit< tt))

not_half : IsFull 1006632960 → ⊥
not_half h = let f : ◌≡◌ {A = ℕ} 2013265920 1 = sym (g_value 1006632960 (lit< tt)) ∙ one_value (of_g 1006632960) h in omega arith

not_third : IsFull 671088640 → ⊥
not_third h = let f : ◌≡◌ {A = ℕ} 1314723123 1 = sym (g_value 671088640 (lit< tt)) ∙ one_value (of_g 671088640) h in omega arith

not_fifth : IsFull 402653184 → ⊥
not_fifth h = let f : ◌≡◌ {A = ℕ} 645581151 1 = sym (g_value 402653184 (lit< tt)) ∙ one_value (of_g 402653184) h in omega arith

full_along : (d w h : ℕ) → IsFull d → d * w ≡ h → IsFull h
full_along d w h f e = ap of_g (sym e) ∙ full_times baby_bear_ring baby_bear_laws generator_31 d w f

fifteen : (b d : ℕ) → b < 16 → d < 16 → d * b ≡ 15 → (b ≡ 1) ⊎ ((b % 3 ≡ 0) ⊎ (b % 5 ≡ 0))
fifteen b d hb hd e =
    let test : ℕ → ℕ → Bool = λ b d. not (nat_eq (d * b) 15) || (nat_eq b 1 || (nat_eq (b % 3) 0 || nat_eq (b % 5) 0)) in
    let t = below_at 16 (λ d. test b d) (below_at 16 (λ b. all_below 16 (λ d. test b d)) refl b hb) d hd in
    cases_15 b (d * b) e t
  where
    cases_15 : (b m : ℕ) → m ≡ 15 → (not (nat_eq m 15) || (nat_eq b 1 || (nat_eq (b % 3) 0 || nat_eq (b % 5) 0))) ≡ true → (b ≡ 1) ⊎ ((b % 3 ≡ 0) ⊎ (b % 5 ≡ 0))
    cases_15 b m e t = elim (eqb_tells b 1) [
      | inl x ↦ inl x.1
      | inr x ↦ elim (eqb_tells (b % 3) 0) [
        | inl y ↦ inr (inl y.1)
        | inr y ↦ elim (eqb_tells (b % 5) 0) [
          | inl z ↦ inr (inr z.1)
          | inr z ↦ let no = rw (x.0, y.0, z.0, eq-eqb m 15 e) at t in cc
        ]
      ]
    ]

second_small : (d b : ℕ) → d * b ≡ 15 → b < 16
second_small zero b e = let f : zero * b ≡ 0 = omega arith in omega arith
second_small (suc d) b e = let f : suc d * b ≡ d * b + b = omega arith in omega arith

first_small : (d b : ℕ) → d * b ≡ 15 → d < 16
first_small d b e = let f : b * d ≡ d * b = omega arith in second_small b d (f ∙ e)

only_whole : (d b : ℕ) → IsFull d → d * b ≡ 2013265920 → b ≡ 1
only_whole d b f e =
    let odd : b % 2 ≡ 1 = elim (eqb_tells (b % 2) 1) [
      | inl t ↦ t.1
      | inr t ↦
          let w = b / 2 in
          let eb : b ≡ 2 * w = omega (arith, t.1) in
          let p : d * b ≡ d * (2 * w) = ap (λ k. d * k) eb in
          absurd (not_half (full_along d w 1006632960 f (omega (arith, p))))
    ] in
    let s = strip 27 d b 15 odd e in
    let small : b < 16 = second_small s.0 b s.1 in
    let small' : s.0 < 16 = first_small s.0 b s.1 in
    elim (fifteen b s.0 small small' s.1) [
      | inl t ↦ t
      | inr (inl t) ↦
          let w = b / 3 in
          let eb : b ≡ 3 * w = omega (arith, t) in
          let p : d * b ≡ d * (3 * w) = ap (λ k. d * k) eb in
          absurd (not_third (full_along d w 671088640 f (omega (arith, p))))
      | inr (inr t) ↦
          let w = b / 5 in
          let eb : b ≡ 5 * w = omega (arith, t) in
          let p : d * b ≡ d * (5 * w) = ap (λ k. d * k) eb in
          absurd (not_fifth (full_along d w 402653184 f (omega (arith, p))))
    ]

pub order_of_g : (m : ℕ) → 0 < m → m < 2013265920 → IsFull m → ⊥
order_of_g m pos small f =
    let (d, a, b, full, p, q) = common baby_bear_ring baby_bear_laws generator_31 m m 2013265920 (omega arith) pos f full_q in
    let one : b ≡ 1 = only_whole d b full q in
    let dq : d ≡ 2013265920 = sym (omega arith) ∙ (ap (λ k. d * k) (sym one) ∙ q) in
    let t : 2013265920 * a ≡ m = ap (λ k. k * a) (sym dq) ∙ p in
    omega arith

-- a power of 31 times the power that makes it whole is one
g_whole : (i : ℕ) → i ≤ 2013265920 → baby_bear_ring.mul (of_g i) (of_g (2013265920 - i)) ≡ baby_bear_ring.one
g_whole i h =
    let e : i + (2013265920 - i) ≡ 2013265920 = omega arith in
    sym (pow_add baby_bear_ring baby_bear_laws generator_31 i (2013265920 - i)) ∙ (ap of_g e ∙ full_q)

g_apart : (i j : ℕ) → i < j → j < 2013265920 → of_g i ≡ of_g j → ⊥
g_apart i j h k e =
    let s : i + (j - i) ≡ j = omega arith in
    let t = of_g (2013265920 - i) in
    let u : of_g j ≡ baby_bear_ring.mul (of_g i) (of_g (j - i)) = ap of_g (sym s) ∙ pow_add baby_bear_ring baby_bear_laws generator_31 i (j - i) in
    let full : IsFull (j - i) =
    cc (e, u, g_whole i (omega arith), baby_bear_laws.mul_comm (of_g i) t, baby_bear_laws.mul_assoc t (of_g i) (of_g (j - i)), one_mul baby_bear_ring baby_bear_laws (of_g (j - i))) in
    order_of_g (j - i) (omega arith) (omega arith) full

pub zero_value : (x : BabyBear) → x.value ≡ 0 → x ≡ baby_bear_ring.zero
unfolding baby_bear_ring
zero_value x e = same_baby_bear x (reduce 0) e

pub one_not_zero : baby_bear_ring.one ≡ baby_bear_ring.zero → ⊥
unfolding baby_bear_ring
one_not_zero e = let f : ◌≡◌ {A = ℕ} 1 0 = ap (λ (v : BabyBear). v.value) e in omega arith

g_not_zero : (i : ℕ) → i < 2013265920 → (of_g i).value ≢ 0
g_not_zero i h e =
    one_not_zero (sym (g_whole i (omega arith)) ∙ (ap (λ v. baby_bear_ring.mul v (of_g (2013265920 - i))) (zero_value (of_g i) e) ∙ zero_mul baby_bear_ring baby_bear_laws (of_g (2013265920 - i))))

place : ℕ → ℕ
place i = (of_g i).value - 1

place_below : (i : ℕ) → i < 2013265920 → place i < 2013265920
unfolding place
place_below i h = let a = g_not_zero i h in let b : (of_g i).value < 2013265921 = (of_g i).in_range in omega arith

place_injective : (i j : ℕ) → i < 2013265920 → j < 2013265920 → place i ≡ place j → i ≡ j
unfolding place
place_injective i j h k e =
    let a = g_not_zero i h in
    let b = g_not_zero j k in
    let v : (of_g i).value ≡ (of_g j).value = omega (arith, a, b, e) in
    let w = same_baby_bear (of_g i) (of_g j) v in
    elim (cases_order i j) [
      | inl t ↦ t
      | inr (inl t) ↦ absurd (g_apart i j t k w)
      | inr (inr t) ↦ absurd (g_apart j i t h (sym w))
    ]

-- each value but zero is a power of 31
pub power_of_g : (x : BabyBear) → (x ≡ baby_bear_ring.zero → ⊥) → (i : ℕ) × (i < 2013265920) × (of_g i ≡ x)
unfolding place
power_of_g x h =
    let nz : x.value ≢ 0 = λ e. h (zero_value x e) in
    let top : x.value < 2013265921 = x.in_range in
    let (i, k, e) = onto 2013265920 place place_below place_injective (x.value - 1) (omega (arith, nz)) in
    let a = g_not_zero i k in
    (i, k, same_baby_bear (of_g i) x (omega (arith, nz, a, e)))

pow_suc : (x : BabyBear) (n : ℕ) → baby_bear_ring.mul x (pow baby_bear_ring x n) ≡ pow baby_bear_ring x (suc n)
unfolding pow
pow_suc x n = refl

-- Fermat
pub fermat : (x : BabyBear) → (x ≡ baby_bear_ring.zero → ⊥) → pow baby_bear_ring x 2013265920 ≡ baby_bear_ring.one
fermat x h =
    let (i, k, e) = power_of_g x h in
    let c : i * 2013265920 ≡ 2013265920 * i = omega arith in
    ap (λ v. pow baby_bear_ring v 2013265920) (sym e)
    ∙ (sym (pow_times baby_bear_ring baby_bear_laws generator_31 i 2013265920) ∙ (ap of_g c ∙ full_times baby_bear_ring baby_bear_laws generator_31 2013265920 i full_q))

pub inverse_power : (x : BabyBear) → (x ≡ baby_bear_ring.zero → ⊥) → baby_bear_ring.mul x (pow baby_bear_ring x 2013265919) ≡ baby_bear_ring.one
inverse_power x h = pow_suc x 2013265919 ∙ fermat x h

pub no_zero_product : (x y : BabyBear) → baby_bear_ring.mul x y ≡ baby_bear_ring.zero → (x ≡ baby_bear_ring.zero → ⊥) → y ≡ baby_bear_ring.zero
no_zero_product x y e h =
    let z = pow baby_bear_ring x 2013265919 in
    cc (inverse_power x h, baby_bear_laws.mul_comm x z, baby_bear_laws.mul_assoc z x y, e, mul_zero baby_bear_ring baby_bear_laws z, one_mul baby_bear_ring baby_bear_laws y)

value_11 : reduce 11 ≡ baby_bear_ring.zero → ⊥
unfolding baby_bear_ring
value_11 e = let f : ◌≡◌ {A = ℕ} 11 0 = ap (λ (v : BabyBear). v.value) e in omega arith

value_of_power_of_11 : (n : ℕ) → n < 2 ^ 31 → (pow baby_bear_ring (reduce 11) n).value ≡ fast 31 1 11 n
unfolding baby_bear_ring
value_of_power_of_11 n h = ap (λ (v : BabyBear). v.value) (sym (one_mul baby_bear_ring baby_bear_laws (pow baby_bear_ring (reduce 11) n))) ∙ fast_value 31 (reduce 1) (reduce 11) n h

-- 11 is no square
pub eleven_no_square : (y : BabyBear) → baby_bear_ring.mul y y ≡ reduce 11 → ⊥
eleven_no_square y e =
    let nz : y ≡ baby_bear_ring.zero → ⊥ = λ z. value_11 (sym e ∙ (ap (λ v. baby_bear_ring.mul v y) z ∙ zero_mul baby_bear_ring baby_bear_laws y)) in
    let a : pow baby_bear_ring (reduce 11) 1006632960 ≡ baby_bear_ring.one =
    ap (λ v. pow baby_bear_ring v 1006632960) (sym e) ∙ (pow_square baby_bear_ring baby_bear_laws y 1006632960 ∙ fermat y nz) in
    let f : ◌≡◌ {A = ℕ} 2013265920 1 = sym (value_of_power_of_11 1006632960 (lit< tt)) ∙ one_value (pow baby_bear_ring (reduce 11) 1006632960) a in
    omega arith
