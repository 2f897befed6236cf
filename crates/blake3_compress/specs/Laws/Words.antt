-- Words of 32 bits: rotations undo each other, and a word is that of its limbs.
use Rattle.std.proofs.Common.{◌≡◌, ℕ, ◌+◌, ◌-◌, ◌*◌, ◌/◌, ◌%◌, ◌^◌, ◌<◌, sym, ◌∙◌, ap, arith, lit<}
use Rattle.std.specs.Prelude.{bit_xor, bit_or}
use Rattle.std.specs.Int.{rotate_left, rotate_right, bit_at, w32}
use Rattle.std.proofs.lemmas.Nat.{or_comm, xor_lt, mod_below}
use Rattle.std.proofs.lemmas.Nat.Bits.{bit_at-lt, bit_at_xor, same_from_bits, same_from_bits_below}
use Rattle.air_gadgets.specs.Gadgets.{rotated_place}
use Rattle.air_gadgets.specs.Words.{AreBits, AreLimbs, limb, limbs_word, bits_word}
use Rattle.air_gadgets.specs.Laws.Words.{bits_number_below, bits_number_bit, bit_of_rotated, rotated_below}

-- a rotation to the right is one to the left
pub right_is_left : (n s : ℕ) → rotate_right w32 n s ≡ rotate_left w32 n (32 - s % 32)
right_is_left n s =
    let m = (32 - s % 32) % 32 in
    let e : (32 - (32 - s % 32) % 32) % 32 ≡ s % 32 = omega arith in
    or_comm (n / 2 ^ (s % 32)) ((n * 2 ^ m) % 2 ^ 32) ∙ ap (λ k. bit_or ((n * 2 ^ m) % 2 ^ 32) (n / 2 ^ k)) (sym e)

pub right_below : (n s : ℕ) → n < 2 ^ 32 → rotate_right w32 n s < 2 ^ 32
right_below n s b = omega (arith, right_is_left n s, rotated_below n (32 - s % 32) b)

-- two rotations by 32 in all
undone : (n s t : ℕ) → n < 2 ^ 32 → (s + t) % 32 ≡ 0 → rotate_left w32 (rotate_left w32 n s) t ≡ n
undone n s t b e =
    let R = rotate_left w32 n s in
    let small : R < 2 ^ 32 = rotated_below n s b in
    same_from_bits_below 32 (rotate_left w32 R t) n (rotated_below R t small) b
    (λ i lt.
    let p = rotated_place t i in
    let there : p < 32 = omega arith in
    let back : rotated_place s p ≡ i = omega (arith, lt, e) in
    bit_of_rotated R t i small lt ∙ (bit_of_rotated n s p b there ∙ ap (bit_at n) back))

pub left_of_right : (n s : ℕ) → n < 2 ^ 32 → rotate_left w32 (rotate_right w32 n s) s ≡ n
left_of_right n s b = ap (λ m. rotate_left w32 m s) (right_is_left n s) ∙ undone n (32 - s % 32) s b (omega arith)

pub right_of_left : (n s : ℕ) → n < 2 ^ 32 → rotate_right w32 (rotate_left w32 n s) s ≡ n
right_of_left n s b = right_is_left (rotate_left w32 n s) s ∙ undone n s (32 - s % 32) b (omega arith)

pub xor_twice : (a b : ℕ) → bit_xor a (bit_xor a b) ≡ b
xor_twice a b = same_from_bits (bit_xor a (bit_xor a b)) b (λ i.
    let e = bit_at_xor a (bit_xor a b) i in
    let f = bit_at_xor a b i in
    omega (arith, e, f, bit_at-lt a i, bit_at-lt b i))

-- where b xor (w turned to the left) is n, w is b xor n, turned to the right
pub turned_back : (b w n s : ℕ) → w < 2 ^ 32 → bit_xor b (rotate_left w32 w s) ≡ n → w ≡ rotate_right w32 (bit_xor b n) s
turned_back b w n s lt e =
    let f : rotate_left w32 w s ≡ bit_xor b n = sym (xor_twice b (rotate_left w32 w s)) ∙ ap (bit_xor b) e in
    sym (right_of_left w s lt) ∙ ap (λ m. rotate_right w32 m s) f

pub turned_there : (b n s : ℕ) → b < 2 ^ 32 → n < 2 ^ 32 → bit_xor b (rotate_left w32 (rotate_right w32 (bit_xor b n) s) s) ≡ n
turned_there b n s hb hn = ap (bit_xor b) (left_of_right (bit_xor b n) s (xor_lt 32 b n hb hn)) ∙ xor_twice b n

-- a word is that of its limbs
pub word_of_limbs : (w : ℕ) → w < 2 ^ 32 → limbs_word (limb w) ≡ w
word_of_limbs w h = omega arith

pub limbs_below : (w : ℕ) → AreLimbs (limb w)
limbs_below w k h = mod_below (w / 2 ^ (16 * k)) (2 ^ 16) (lit< tt)

-- bits are those of the number that they make
pub bit_of_bits : (f : ℕ → ℕ) → AreBits f → (k : ℕ) → k < 32 → bit_at (bits_word f) k ≡ f k
bit_of_bits f h k lt =
    let here : 0 + k ≡ k = omega arith in
    bits_number_bit f 0 32 k (λ i a l. h i (omega (arith, l))) lt ∙ ap f here

pub bits_below : (f : ℕ → ℕ) → AreBits f → bits_word f < 2 ^ 32
bits_below f h = bits_number_below f 0 32 (λ i a l. h i (omega (arith, l)))
