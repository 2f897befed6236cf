-- Orders of powers, and maps of a finite range into itself.
use Rattle.std.proofs.Common.{◌≡◌, ◌≢◌, ℕ, zero, suc, ◌+◌, ◌-◌, ◌*◌, ◌/◌, ◌%◌, ◌^◌, ◌≤◌, ◌<◌, ◌⊎◌, inl, inr, Bool, true, false, cond, nat_eq, refl, sym, ◌∙◌, ap, add-one, arith}
use Rattle.std.proofs.Math.Nat.{div-add-mod, pow-suc}
use Rattle.std.proofs.lemmas.Nat.{pow_pos}
use Rattle.std.proofs.lemmas.Bool.Decides.{eqb_tells}
use Rattle.p3_field.specs.Ring.{Ring, RingLaws, pow}
use Rattle.p3_field.specs.Laws.Algebra.{pow_add, one_mul}

-- `c` in place of `n`
swapped : ℕ → ℕ → ℕ → ℕ
swapped n c v = cond (nat_eq v n) c v

swapped_tells : (n c v : ℕ) → ((v ≡ n) × (swapped n c v ≡ c)) ⊎ ((v ≢ n) × (swapped n c v ≡ v))
unfolding swapped
swapped_tells n c v = elim (eqb_tells v n) [
  | inl h ↦ inl (h.1, ap (λ b. cond b c v) h.0)
  | inr h ↦ inr (h.1, ap (λ b. cond b c v) h.0)
]

into_case : (n c v : ℕ) → c < suc n → v < suc n → (v ≡ n → c ≢ n) → swapped n c v < n
into_case n c v a b h = elim (swapped_tells n c v) [
  | inl t ↦ let e : c ≢ n = h t.0 in omega (arith, t.1)
  | inr t ↦ omega (arith, t.1, t.0)
]

inj_case : (n c v w : ℕ) → (v ≡ c → ⊥) → (w ≡ c → ⊥) → swapped n c v ≡ swapped n c w → v ≡ w
inj_case n c v w a b e = elim (swapped_tells n c v) [
  | inl t ↦ elim (swapped_tells n c w) [
    | inl u ↦ t.0 ∙ sym u.0
    | inr u ↦ absurd (b (sym u.1 ∙ (sym e ∙ t.1)))
  ]
  | inr t ↦ elim (swapped_tells n c w) [
    | inl u ↦ absurd (a (sym t.1 ∙ (e ∙ u.1)))
    | inr u ↦ sym t.1 ∙ (e ∙ u.1)
  ]
]

-- where a target `y` other than `c` is taken after the swap, it is taken before
out_case : (n c v y : ℕ) → (c ≡ y → ⊥) → swapped n c v ≡ y → v ≡ y
out_case n c v y a e = elim (swapped_tells n c v) [
  | inl t ↦ absurd (a (sym t.1 ∙ e))
  | inr t ↦ sym t.1 ∙ e
]

-- and where `c` is, `n` is
top_case : (n c v : ℕ) → (v ≡ c → ⊥) → swapped n c v ≡ c → v ≡ n
top_case n c v a e = elim (swapped_tells n c v) [
  | inl t ↦ t.0
  | inr t ↦ absurd (a (sym t.1 ∙ e))
]

-- an injective map of the numbers below `n` into themselves takes each of them
pub onto : (n : ℕ) (f : ℕ → ℕ) → ((i : ℕ) → i < n → f i < n) → ((i j : ℕ) → i < n → j < n → f i ≡ f j → i ≡ j)
    → (y : ℕ) → y < n → (i : ℕ) × (i < n) × (f i ≡ y)
onto zero f into inj y h = absurd (omega arith)
onto (suc n) f into inj y h =
    let g : ℕ → ℕ = λ i. swapped n (f n) (f i) in
    let nn : n < suc n = omega arith in
    let up : (i : ℕ) → i < n → i < suc n = λ i k. omega arith in
    let apart : (i : ℕ) → i < n → f i ≡ f n → ⊥ = λ i k e. let z : i ≡ n = inj i n (up i k) nn e in omega arith in
    let g_into : (i : ℕ) → i < n → g i < n = λ i k. into_case n (f n) (f i) (into n nn) (into i (up i k)) (λ e m. apart i k (e ∙ sym m)) in
    let g_inj : (i j : ℕ) → i < n → j < n → g i ≡ g j → i ≡ j =
    λ i j k l e. inj i j (up i k) (up j l) (inj_case n (f n) (f i) (f j) (apart i k) (apart j l) e) in
    onto_step n f y h nn up apart (into n nn) (onto n g g_into g_inj)
  where
    onto_step : (n : ℕ) (f : ℕ → ℕ) (y : ℕ) → y < suc n → n < suc n → ((i : ℕ) → i < n → i < suc n) → ((i : ℕ) → i < n → f i ≡ f n → ⊥)
        → f n < suc n → ((z : ℕ) → z < n → (i : ℕ) × (i < n) × (swapped n (f n) (f i) ≡ z)) → (i : ℕ) × (i < suc n) × (f i ≡ y)
    onto_step n f y h nn up apart low rec = elim (eqb_tells (f n) y) [
      | inl t ↦ (n, nn, t.1)
      | inr t ↦ elim (eqb_tells y n) [
        | inl u ↦
            let less : f n < n = let a : f n ≢ n = λ z. t.1 (z ∙ sym u.1) in omega (arith, low, a) in
            let (i, k, e) = rec (f n) less in
            (i, up i k, top_case n (f n) (f i) (apart i k) e ∙ sym u.1)
        | inr u ↦
            let less : y < n = omega (arith, h, u.1) in
            let (i, k, e) = rec y less in
            (i, up i k, out_case n (f n) (f i) y t.1 e)
      ]
    ]

module _ {A : Type 0} (r : Ring A) (L : RingLaws r) where
  pub one_pow : (n : ℕ) → pow r r.one n ≡ r.one
  unfolding pow
  one_pow zero = refl
  one_pow (suc n) = one_mul r L (pow r r.one n) ∙ one_pow n

  pub pow_times : (x : A) (m n : ℕ) → pow r x (m * n) ≡ pow r (pow r x m) n
  unfolding pow
  pow_times x m zero = let e : m * zero ≡ zero = omega arith in ap (pow r x) e
  pow_times x m (suc n) =
      let e : m * suc n ≡ m + m * n = omega arith in
      ap (pow r x) e ∙ (pow_add r L x m (m * n) ∙ ap (r.mul (pow r x m)) (pow_times x m n))

  -- a turn of the product of squares
  pub ones_step : (x p s : A) (c : ℕ) → p ≡ pow r x (2 ^ c - 1) → s ≡ pow r x (2 ^ c) → r.mul p s ≡ pow r x (2 ^ (c + 1) - 1)
  ones_step x p s c h k =
      let f : 2 ^ (c + 1) ≡ 2 ^ c + 2 ^ c = rw (add-one, pow-suc) (omega arith) in
      let g : 0 < 2 ^ c = pow_pos c in
      let e : (2 ^ c - 1) + 2 ^ c ≡ 2 ^ (c + 1) - 1 = omega arith in
      cc (pow_add r L x (2 ^ c - 1) (2 ^ c), e)

  -- a product of powers
  pub pow_product : (x y z w : A) (m n t : ℕ) → y ≡ pow r x m → z ≡ pow r x n → w ≡ r.mul y z → m + n ≡ t → w ≡ pow r x t
  pow_product x y z w m n t p q e s = cc (pow_add r L x m n)

  module _ (g : A) where
    abbrev pub Full : ℕ → Type 0
    Full m = pow r g m ≡ r.one

    pub full_times : (m k : ℕ) → Full m → Full (m * k)
    full_times m k h = pow_times g m k ∙ (ap (λ v. pow r v k) h ∙ one_pow k)

    full_mod : (m n : ℕ) → Full m → Full n → Full (n % m)
    full_mod m n h k =
        let e : m * (n / m) + n % m ≡ n = div-add-mod n m in
        cc (pow_add r L g (m * (n / m)) (n % m), e, full_times m (n / m) h, one_mul r L (pow r g (n % m)), k)

    abbrev pub Common : ℕ → ℕ → Type 0
    Common m n = (d : ℕ) × (a : ℕ) × (b : ℕ) × Full d × (d * a ≡ m) × (d * b ≡ n)

    common_step : (m n j : ℕ) → 0 < m → Full m → Full n → n % m ≡ j → (0 < j → Full j → Common j m) → Common m n
    common_step m n zero pos h k e rec =
        let f : m * (n / m) + n % m ≡ n = div-add-mod n m in
        let one : m * 1 ≡ m = omega arith in
        let all : m * (n / m) ≡ n = omega (arith, f) in
        (m, 1, n / m, h, one, all)
    common_step m n (suc j) pos h k e rec =
        let (d, a, b, full, p, q) = rec (omega arith) (ap (pow r g) (sym e) ∙ full_mod m n h k) in
        let w = n / m in
        let f : m * w + n % m ≡ n = div-add-mod n m in
        let t : d * (b * w + a) ≡ d * b * w + d * a = omega arith in
        (d, b, b * w + a, full, q, t ∙ (ap (λ z. z * w + d * a) q ∙ (ap (λ z. m * w + z) (p ∙ sym e) ∙ f)))

    -- a common divisor that is a full power too
    pub common : (fuel m n : ℕ) → m ≤ fuel → 0 < m → Full m → Full n → Common m n
    common zero m n le pos h k = absurd (omega arith)
    common (suc fuel) m n le pos h k =
        let small : n % m < m = omega arith in
        common_step m n (n % m) pos h k refl (λ p f. common fuel (n % m) m (omega arith) p f h)

pub strip : (n d b m : ℕ) → b % 2 ≡ 1 → d * b ≡ 2 ^ n * m → (e : ℕ) × (e * b ≡ m)
strip zero d b m odd h = (d, h ∙ omega arith)
strip (suc n) d b m odd h =
    let N = 2 ^ n in
    let s : 2 ^ suc n ≡ 2 * N = rw pow-suc (omega arith) in
    let h2 : d * b ≡ 2 * (N * m) = h ∙ (ap (λ z. z * m) s ∙ omega arith) in
    strip n (d / 2) b m odd (halved d b (d / 2) (b / 2) (N * m) (d % 2) (omega arith) (omega arith) (omega arith) h2)
  where
    halved : (d b D B M e : ℕ) → b ≡ 2 * B + 1 → d ≡ 2 * D + e → e < 2 → d * b ≡ 2 * M → D * b ≡ M
    halved d b D B M e eb ed small h =
        let x : d * b ≡ (2 * D + e) * (2 * B + 1) = cc (eb, ed) in
        let y : (2 * D + e) * (2 * B + 1) ≡ 2 * (D * (2 * B + 1) + e * B) + e = omega arith in
        let z : e ≡ 0 = omega arith in
        let w : 2 * (D * (2 * B + 1) + e * B) + e ≡ 2 * (D * (2 * B + 1)) = rw z (omega arith) in
        let v : D * b ≡ D * (2 * B + 1) = ap (λ k. D * k) eb in
        omega arith

abbrev pub all_below : ℕ → (ℕ → Bool) → Bool
all_below zero p = true
all_below (suc n) p = elim (p n) [ true ↦ all_below n p | false ↦ false ]

both : (a b : Bool) → elim a [ true ↦ b | false ↦ false ] ≡ true → (a ≡ true) × (b ≡ true)
both true b e = (refl, e)
both false b e = cc

-- what a computed test over all numbers below `n` says of one
pub below_at : (n : ℕ) (p : ℕ → Bool) → all_below n p ≡ true → (k : ℕ) → k < n → p k ≡ true
below_at zero p e k h = absurd (omega arith)
below_at (suc n) p e k h =
    let t = both (p n) (all_below n p) e in
    elim (eqb_tells k n) [
      | inl u ↦ ap p u.1 ∙ t.0
      | inr u ↦ below_at n p t.1 k (omega (arith, h, u.1))
    ]
