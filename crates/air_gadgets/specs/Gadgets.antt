-- The constraint trees of the gadgets on words of 32 bits, after Plonky3's p3-air (utils). A word is given by the
-- trees of its two limbs of 16 bits or of its 32 bits, the lowest first: a function from a place to the tree there.
use Rattle.std.specs.Prelude.{ℕ, zero, suc, ◌+◌, ◌-◌, ◌*◌, ◌%◌, ◌^◌, ◌<◌, List, [], ◌∷◌, ◌++◌, length, map}
use Rattle.std.specs.Prelude.{slice_index_or as get_or}
use Rattle.std.specs.Int.{bit_at}
use Rattle.p3_field.specs.Ring.{Ring, of_nat}
use Rattle.p3_field.specs.Poly.{tabulate}
use Rattle.air_core.specs.Tree.{Tree, constant, sum, difference, product, bool_tree}

-- each expression is in the relation with the tree of its place
pub record RepresentAt {E T : Type 0} (P : E → T → Type 0) (es : List E) (t : ℕ → T) : Type 0 where
  pub each : (k : ℕ) (d : E) → k < length es → P (get_or es k d) (t k)

-- the constant that is the sum of n ones
abbrev pub number : {F : Type 0} → Ring F → ℕ → Tree F
number r n = constant (of_nat r n)

-- x - y - z
abbrev pub difference_of_three : {F : Type 0} → Tree F → Tree F → Tree F → Tree F
difference_of_three x y z = difference (difference x y) z

-- x - y - z - w
abbrev pub difference_of_four : {F : Type 0} → Tree F → Tree F → Tree F → Tree F → Tree F
difference_of_four x y z w = difference (difference_of_three x y z) w

-- low + 2^16 high
abbrev pub with_high : {F : Type 0} → Ring F → Tree F → Tree F → Tree F
with_high r low high = sum low (product (number r (2 ^ 16)) high)

-- x (x + n): zero where x is zero or minus n
abbrev pub zero_or_minus : {F : Type 0} → Ring F → ℕ → Tree F → Tree F
zero_or_minus r n x = product x (sum x (number r n))

-- x (x + n) (x + 2n): zero where x is zero, minus n or minus 2n
abbrev pub zero_to_minus_twice : {F : Type 0} → Ring F → ℕ → Tree F → Tree F
zero_to_minus_twice r n x = product (zero_or_minus r n x) (sum x (number r (2 * n)))

-- a = b + c modulo 2^32, by limbs: the whole words differ by no or one 2^32, and the low limbs by no or one 2^16
abbrev pub add2_trees : {F : Type 0} → Ring F → (a b c : ℕ → Tree F) → List (Tree F)
add2_trees r a b c =
    zero_or_minus r (2 ^ 32) (with_high r (difference_of_three (a 0) (b 0) (c 0)) (difference_of_three (a 1) (b 1) (c 1)))
    ∷ zero_or_minus r (2 ^ 16) (difference_of_three (a 0) (b 0) (c 0))
    ∷ []

-- a = b + c + d modulo 2^32, likewise
abbrev pub add3_trees : {F : Type 0} → Ring F → (a b c d : ℕ → Tree F) → List (Tree F)
add3_trees r a b c d =
    zero_to_minus_twice r (2 ^ 32) (with_high r (difference_of_four (a 0) (b 0) (c 0) (d 0)) (difference_of_four (a 1) (b 1) (c 1) (d 1)))
    ∷ zero_to_minus_twice r (2 ^ 16) (difference_of_four (a 0) (b 0) (c 0) (d 0))
    ∷ []

-- x + y - 2xy: of bits, their exclusive or
abbrev pub xor_tree : {F : Type 0} → Ring F → Tree F → Tree F → Tree F
xor_tree r x y = difference (sum x y) (product (number r 2) (product x y))

-- the sum of t_(k+i) 2^i for i below n, by Horner's rule
unfoldable pub packed_bits : {F : Type 0} → Ring F → (ℕ → Tree F) → ℕ → ℕ → Tree F
packed_bits r t k zero = number r 0
packed_bits r t k (suc n) = sum (t k) (product (number r 2) (packed_bits r t (suc k) n))

-- the place from which rotation to the left by s takes bit i of a word
abbrev pub rotated_place : ℕ → ℕ → ℕ
rotated_place s i = (i + (32 - s % 32)) % 32

-- bit i of b xor (c rotated to the left by s)
abbrev pub xor_shift_bit : {F : Type 0} → Ring F → (b c : ℕ → Tree F) → ℕ → ℕ → Tree F
xor_shift_bit r b c s i = xor_tree r (b i) (c (rotated_place s i))

-- the bits of c are bits, and a is b xor (c rotated to the left by s): its limbs are the packed bits of each half
unfoldable pub xor_shift_trees : {F : Type 0} → Ring F → (a b c : ℕ → Tree F) → ℕ → List (Tree F)
xor_shift_trees r a b c s =
    map (bool_tree r.one) (tabulate 32 c)
    ++ difference (a 0) (packed_bits r (xor_shift_bit r b c s) 0 16)
    ∷ difference (a 1) (packed_bits r (xor_shift_bit r b c s) 16 16)
    ∷ []

-- the 32 bits of the word as elements, the lowest first
unfoldable pub word_bits : {F : Type 0} → Ring F → ℕ → List F
word_bits r w = tabulate 32 (λ i. of_nat r (bit_at w i))
