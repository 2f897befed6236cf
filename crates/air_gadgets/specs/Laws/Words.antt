-- Numbers and their bits: limbs, rotation and exclusive or.
use Rattle.std.proofs.Common.{◌≡◌, ℕ, zero, suc, ◌+◌, ◌-◌, ◌*◌, ◌/◌, ◌%◌, ◌^◌, ◌<◌, ◌≤◌, inl, inr, sym, ◌∙◌, ap, arith, lit<, mul_assoc}
use Rattle.std.specs.Prelude.{bit_xor, max}
use Rattle.std.specs.Int.{rotate_left, bit_at, w32}
use Rattle.std.proofs.lemmas.Bool.{cases_eq, cases_lt}
use Rattle.std.proofs.lemmas.Nat.{shr-shr, or_lt, xor_lt, mod_below, pow_pos, shr_le, shr_split}
use Rattle.std.proofs.lemmas.Nat.Bits.{bit_at_lowest, bit_at-suc, bit_at-lt, bit_at-zero, bit_at_or, bit_at_xor, bit_at_above, bit_at_cat_low, bit_at_cat_high, same_from_bits_below}
use Rattle.std.proofs.Math.Nat.{pow-suc}
use Rattle.air_gadgets.specs.Gadgets.{rotated_place}
use Rattle.air_gadgets.specs.Words.{AreBits, bits_number, bits_word, limb, BitsMean}

-- the numbers at the n places from k on are below 2
abbrev pub BitsFrom : (ℕ → ℕ) → ℕ → ℕ → Type 0
BitsFrom f k n = (i : ℕ) → k ≤ i → i < k + n → f i < 2

pub bits_number_below : (f : ℕ → ℕ) (k n : ℕ) → BitsFrom f k n → bits_number f k n < 2 ^ n
unfolding bits_number
bits_number_below f k zero h = lit< tt
bits_number_below f k (suc n) h =
    let here : f k < 2 = h k (omega arith) (omega arith) in
    let rest : bits_number f (suc k) n < 2 ^ n = bits_number_below f (suc k) n (λ i a b. h i (omega (arith, a)) (omega (arith, b))) in
    rw pow-suc (omega (arith, here, rest))

pub bits_number_bit : (f : ℕ → ℕ) (k n i : ℕ) → BitsFrom f k n → i < n → bit_at (bits_number f k n) i ≡ f (k + i)
unfolding bits_number
bits_number_bit f k zero i h lt = absurd (omega (arith, lt))
bits_number_bit f k (suc n) zero h lt =
    let here : f k < 2 = h k (omega arith) (omega arith) in
    let at : k + 0 ≡ k = omega arith in
    bit_at_lowest (f k + 2 * bits_number f (suc k) n) ∙ (omega (arith, here) ∙ ap f (sym at))
bits_number_bit f k (suc n) (suc i) h lt =
    let here : f k < 2 = h k (omega arith) (omega arith) in
    let rest = bits_number f (suc k) n in
    let half : (f k + 2 * rest) / 2 ≡ rest = omega (arith, here) in
    let at : suc k + i ≡ k + suc i = omega arith in
    bit_at-suc (f k + 2 * rest) i ∙ (ap (λ m. bit_at m i) half
    ∙ (bits_number_bit f (suc k) n i (λ j a b. h j (omega (arith, a)) (omega (arith, b))) (omega (arith, lt)) ∙ ap f at))

pub bits_number_append : (f : ℕ → ℕ) (k m n : ℕ) → bits_number f k (m + n) ≡ bits_number f k m + 2 ^ m * bits_number f (k + m) n
unfolding bits_number
bits_number_append f k zero n =
    let e : zero + n ≡ n = omega arith in
    let g : k ≡ k + 0 = omega arith in
    let h : bits_number f k n ≡ 0 + 1 * bits_number f k n = omega arith in
    ap (bits_number f k) e ∙ (h ∙ ap (λ j. 0 + 1 * bits_number f j n) g)
bits_number_append f k (suc m) n =
    let e : suc m + n ≡ suc (m + n) = omega arith in
    let g : suc k + m ≡ k + suc m = omega arith in
    let step = bits_number_append f (suc k) m n in
    let p = 2 ^ m in
    let high = bits_number f (k + suc m) n in
    let two : 2 ^ suc m ≡ 2 * p = pow-suc 2 m ∙ omega arith in
    let moved : bits_number f (suc k) (m + n) ≡ bits_number f (suc k) m + p * high = step ∙ ap (λ j. bits_number f (suc k) m + p * bits_number f j n) g in
    ap (bits_number f k) e ∙ (ap (λ v. f k + 2 * v) moved ∙ (regroup (f k) (bits_number f (suc k) m) p high ∙ ap (λ q. f k + 2 * bits_number f (suc k) m + q * high) (sym two)))
  where
    regroup : (a b p h : ℕ) → a + 2 * (b + p * h) ≡ a + 2 * b + 2 * p * h
    regroup a b p h = let e : 2 * p * h ≡ 2 * (p * h) = mul_assoc 2 p h in omega (arith, e)

-- bits of a number that is shifted to the left, of its part below 2^w, and of one that is shifted to the right
bit_of_shl_low : (n k i : ℕ) → i < k → bit_at (n * 2 ^ k) i ≡ 0
bit_of_shl_low n k i h =
    let e : n * 2 ^ k ≡ n * 2 ^ k + 0 = omega arith in
    ap (λ m. bit_at m i) e ∙ (bit_at_cat_low n k 0 i h ∙ bit_at-zero i)

bit_of_shl_high : (n k i : ℕ) → k ≤ i → bit_at (n * 2 ^ k) i ≡ bit_at n (i - k)
bit_of_shl_high n k i h =
    let e : n * 2 ^ k ≡ n * 2 ^ k + 0 = omega arith in
    ap (λ m. bit_at m i) e ∙ bit_at_cat_high n k 0 i (pow_pos k) h

pub bit_of_low : (n w i : ℕ) → i < w → bit_at (n % 2 ^ w) i ≡ bit_at n i
bit_of_low n w i h =
    let e : n / 2 ^ w * 2 ^ w + n % 2 ^ w ≡ n = shr_split n w in
    sym (bit_at_cat_low (n / 2 ^ w) w (n % 2 ^ w) i h) ∙ ap (λ m. bit_at m i) e

bit_of_shr : (n m i : ℕ) → bit_at (n / 2 ^ m) i ≡ bit_at n (m + i)
bit_of_shr n m i = ap (λ j. j % 2) (shr-shr n m i)

-- rotation to the left takes bit i from place i - s
pub bit_of_rotated : (n s i : ℕ) → n < 2 ^ 32 → i < 32 → bit_at (rotate_left w32 n s) i ≡ bit_at n (rotated_place s i)
bit_of_rotated n s i b h =
    let k = s % 32 in
    let below : k < 32 = omega arith in
    let m = (32 - k) % 32 in
    let left = (n * 2 ^ k) % 2 ^ 32 in
    let both : bit_at (rotate_left w32 n s) i ≡ max (bit_at left i) (bit_at (n / 2 ^ m) i) = bit_at_or left (n / 2 ^ m) i in
    let up : bit_at left i ≡ bit_at (n * 2 ^ k) i = bit_of_low (n * 2 ^ k) 32 i h in
    let down : bit_at (n / 2 ^ m) i ≡ bit_at n (m + i) = bit_of_shr n m i in
    elim (cases_lt i k) [
      | inl lt ↦
          let e : bit_at left i ≡ 0 = up ∙ bit_of_shl_low n k i lt in
          let f : m + i ≡ rotated_place s i = omega (arith, lt) in
          let g : bit_at (n / 2 ^ m) i ≡ bit_at n (rotated_place s i) = down ∙ ap (bit_at n) f in
          both ∙ (ap (λ x. max x (bit_at (n / 2 ^ m) i)) e ∙ (omega arith ∙ g))
      | inr ge ↦
          let e : bit_at left i ≡ bit_at n (i - k) = up ∙ bit_of_shl_high n k i ge in
          let f : i - k ≡ rotated_place s i = omega (arith, ge) in
          elim (cases_eq k 0) [
            | inl z ↦
                let q : m + i ≡ i - k = omega (arith, z) in
                let g : bit_at (n / 2 ^ m) i ≡ bit_at n (i - k) = down ∙ ap (bit_at n) q in
                let same : max (bit_at left i) (bit_at (n / 2 ^ m) i) ≡ bit_at n (i - k) = omega (arith, e, g) in
                both ∙ (same ∙ ap (bit_at n) f)
            | inr d ↦
                let far : 32 ≤ m + i = omega (arith, d, ge) in
                let g : bit_at (n / 2 ^ m) i ≡ 0 = down ∙ bit_at_above n 32 (m + i) b far in
                let same : max (bit_at left i) (bit_at (n / 2 ^ m) i) ≡ bit_at n (i - k) = omega (arith, e, g) in
                both ∙ (same ∙ ap (bit_at n) f)
          ]
    ]

pub rotated_below : (n s : ℕ) → n < 2 ^ 32 → rotate_left w32 n s < 2 ^ 32
rotated_below n s b =
    let k = s % 32 in
    let m = (32 - k) % 32 in
    or_lt 32 ((n * 2 ^ k) % 2 ^ 32) (n / 2 ^ m) (mod_below (n * 2 ^ k) (2 ^ 32) (lit< tt)) (omega (arith, shr_le n m, b))

-- bit i of b xor (c rotated to the left by s), of the bits of b and c
abbrev pub turned_bit : (ℕ → ℕ) → (ℕ → ℕ) → ℕ → ℕ → ℕ
turned_bit b c s i = (b i + c (rotated_place s i)) % 2

pub turned_bits : (b c : ℕ → ℕ) (s k n : ℕ) → BitsFrom (turned_bit b c s) k n
turned_bits b c s k n i h l = mod_below (b i + c (rotated_place s i)) 2 (lit< tt)

-- the word b xor (c rotated to the left by s) has these bits
pub xor_of_bits : (b c : ℕ → ℕ) (s : ℕ) → AreBits b → AreBits c
    → bit_xor (bits_word b) (rotate_left w32 (bits_word c) s) ≡ bits_number (turned_bit b c s) 0 32
xor_of_bits b c s rb rc =
    let hb : BitsFrom b 0 32 = λ i a l. rb i (omega (arith, l)) in
    let hc : BitsFrom c 0 32 = λ i a l. rc i (omega (arith, l)) in
    let B = bits_word b in
    let C = bits_word c in
    let small : C < 2 ^ 32 = bits_number_below c 0 32 hc in
    let R = rotate_left w32 C s in
    let f = turned_bit b c s in
    let hf = turned_bits b c s 0 32 in
    same_from_bits_below 32 (bit_xor B R) (bits_number f 0 32)
    (xor_lt 32 B R (bits_number_below b 0 32 hb) (rotated_below C s small)) (bits_number_below f 0 32 hf)
    (λ i lt.
    let place : rotated_place s i < 32 = omega arith in
    let here : 0 + i ≡ i = omega arith in
    let there : 0 + rotated_place s i ≡ rotated_place s i = omega arith in
    let x : bit_at B i ≡ b i = bits_number_bit b 0 32 i hb lt ∙ ap b here in
    let y : bit_at R i ≡ c (rotated_place s i) = bit_of_rotated C s i small lt ∙ (bits_number_bit c 0 32 (rotated_place s i) hc place ∙ ap c there) in
    bit_at_xor B R i ∙ (ap (λ v. (v + bit_at R i) % 2) x ∙ (ap (λ v. (b i + v) % 2) y
    ∙ sym (bits_number_bit f 0 32 i hf lt ∙ ap f here))))

-- its limbs
pub low_limb : (f : ℕ → ℕ) → BitsFrom f 0 32 → limb (bits_number f 0 32) 0 ≡ bits_number f 0 16
low_limb f h =
    let low : bits_number f 0 16 < 2 ^ 16 = bits_number_below f 0 16 (λ i a l. h i a (omega (arith, l))) in
    let e : bits_number f 0 32 ≡ bits_number f 0 16 + 2 ^ 16 * bits_number f 16 16 = bits_number_append f 0 16 16 in
    omega (arith, low, e)

pub high_limb : (f : ℕ → ℕ) → BitsFrom f 0 32 → limb (bits_number f 0 32) 1 ≡ bits_number f 16 16
high_limb f h =
    let low : bits_number f 0 16 < 2 ^ 16 = bits_number_below f 0 16 (λ i a l. h i a (omega (arith, l))) in
    let high : bits_number f 16 16 < 2 ^ 16 = bits_number_below f 16 16 (λ i a l. h i (omega arith) (omega (arith, l))) in
    let e : bits_number f 0 32 ≡ bits_number f 0 16 + 2 ^ 16 * bits_number f 16 16 = bits_number_append f 0 16 16 in
    omega (arith, low, high, e)

-- a word is the number of its bits
pub word_of_bits : (w : ℕ) → w < 2 ^ 32 → bits_word (bit_at w) ≡ w
word_of_bits w h =
    let bits : BitsFrom (bit_at w) 0 32 = λ i a b. bit_at-lt w i in
    same_from_bits_below 32 (bits_word (bit_at w)) w (bits_number_below (bit_at w) 0 32 bits) h
    (λ i lt. let e : 0 + i ≡ i = omega arith in bits_number_bit (bit_at w) 0 32 i bits lt ∙ ap (bit_at w) e)

pub bits_mean : (w : ℕ) → w < 2 ^ 32 → BitsMean w
bits_mean w h = (λ k lt. bit_at-lt w k, word_of_bits w h)
