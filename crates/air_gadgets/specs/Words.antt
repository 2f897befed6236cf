-- What the gadgets' trees mean: words of 32 bits as numbers, given by limbs of 16 bits or by bits, the lowest first,
-- and elements of a prime field that represent these. The rules are those of Plonky3's p3-air (utils).
use Rattle.std.specs.Prelude.{◌≡◌, ℕ, zero, suc, ◌+◌, ◌*◌, ◌/◌, ◌%◌, ◌^◌, ◌<◌, List, All, bit_xor, ◌↔◌, ◌⊎◌}
use Rattle.std.specs.Int.{rotate_left, bit_at}
use Rattle.std.specs.Int.{w32}
use Rattle.p3_field.specs.Ring.{Ring, RingLaws, of_nat, sub}
use Rattle.p3_field.specs.Field.{FieldLaws}
use Rattle.p3_field.specs.Poly.{total}
use Rattle.air_core.specs.declared.cells.Cell.{Cell}
use Rattle.air_core.specs.declared.cells.ExtCell.{ExtCell}
use Rattle.air_core.specs.Tree.{Tree, Reading, eval_tree, bool_tree}
use Rattle.air_gadgets.specs.Gadgets.{add2_trees, add3_trees, packed_bits, xor_tree, xor_shift_trees}

-- a prime field as data: each element is the sum of as many ones as its canonical number, which is below the order
pub record PrimeFieldLaws {A : Type 0} (r : Ring A) (inv : A → A) (order : ℕ) (canonical : A → ℕ) : Type 0 where
  pub ring_laws : RingLaws r
  pub field_laws : FieldLaws r inv
  pub canonical_below : (x : A) → canonical x < order
  pub of_canonical : (x : A) → of_nat r (canonical x) ≡ x
  pub canonical_of : (n : ℕ) → canonical (of_nat r n) ≡ n % order

-- trees over a ring as elements of it, where the cells have these values
abbrev pub cells_reading : {A : Type 0} → Ring A → (Cell → A) → (ExtCell → A) → Reading A A
cells_reading r at at_ext = record { from = λ x. x; add = r.add; sub = sub r; mul = r.mul; at = at; at_ext = at_ext }

-- all the trees are zero
abbrev pub Vanish : {A : Type 0} → Ring A → Reading A A → List (Tree A) → Type 0
Vanish r rd ts = All (λ t. eval_tree rd t ≡ r.zero) ts

-- the trees at the first n places are these numbers, as elements
abbrev pub HaveNumbers : {A : Type 0} → Ring A → Reading A A → ℕ → (ℕ → Tree A) → (ℕ → ℕ) → Type 0
HaveNumbers r rd n t f = (k : ℕ) → k < n → eval_tree rd (t k) ≡ of_nat r (f k)

-- the first n numbers are below m
abbrev pub AreBelow : ℕ → ℕ → (ℕ → ℕ) → Type 0
AreBelow m n f = (k : ℕ) → k < n → f k < m

-- two limbs of 16 bits, and 32 bits
abbrev pub AreLimbs : (ℕ → ℕ) → Type 0
AreLimbs f = AreBelow (2 ^ 16) 2 f

abbrev pub AreBits : (ℕ → ℕ) → Type 0
AreBits f = AreBelow 2 32 f

-- the number with these two limbs
abbrev pub limbs_word : (ℕ → ℕ) → ℕ
limbs_word f = f 0 + 2 ^ 16 * f 1

-- limb k of the number
abbrev pub limb : ℕ → ℕ → ℕ
limb n k = n / 2 ^ (16 * k) % 2 ^ 16

-- the number with the n bits f k, f (k + 1), ..
unfoldable pub bits_number : (ℕ → ℕ) → ℕ → ℕ → ℕ
bits_number f k zero = 0
bits_number f k (suc n) = f k + 2 * bits_number f (suc k) n

-- the number with these 32 bits
abbrev pub bits_word : (ℕ → ℕ) → ℕ
bits_word f = bits_number f 0 32

-- Of limbs in range the trees of `add2` are zero exactly where a is b + c modulo 2^32.
abbrev pub Add2Means : {A : Type 0} → Ring A → Reading A A → Type 0
Add2Means {A} r rd = (s t u : ℕ → Tree A) (a b c : ℕ → ℕ) → AreLimbs a → AreLimbs b → AreLimbs c
    → HaveNumbers r rd 2 s a → HaveNumbers r rd 2 t b → HaveNumbers r rd 2 u c
    → Vanish r rd (add2_trees r s t u) ↔ (limbs_word a ≡ (limbs_word b + limbs_word c) % 2 ^ 32)

-- Of limbs in range the trees of `add3` are zero exactly where a is b + c + d modulo 2^32.
abbrev pub Add3Means : {A : Type 0} → Ring A → Reading A A → Type 0
Add3Means {A} r rd = (s t u v : ℕ → Tree A) (a b c d : ℕ → ℕ) → AreLimbs a → AreLimbs b → AreLimbs c → AreLimbs d
    → HaveNumbers r rd 2 s a → HaveNumbers r rd 2 t b → HaveNumbers r rd 2 u c → HaveNumbers r rd 2 v d
    → Vanish r rd (add3_trees r s t u v) ↔ (limbs_word a ≡ (limbs_word b + limbs_word c + limbs_word d) % 2 ^ 32)

-- the trees of c have bits, and those of a the limbs of b xor (c rotated to the left by s)
pub record IsXorShift {A : Type 0} (r : Ring A) (rd : Reading A A) (ta : ℕ → Tree A) (b : ℕ → ℕ) (tc : ℕ → Tree A) (s : ℕ) : Type 0 where
  pub c : ℕ → ℕ
  pub c_bits : AreBits c
  pub c_values : HaveNumbers r rd 32 tc c
  pub a_values : HaveNumbers r rd 2 ta (limb (bit_xor (bits_word b) (rotate_left w32 (bits_word c) s)))

-- Where b has bits, the trees of `xor_32_shift` are zero exactly where c has bits and a is b xor (c rotated to the
-- left by s).
abbrev pub XorShiftMeans : {A : Type 0} → Ring A → Reading A A → Type 0
XorShiftMeans {A} r rd = (ta tb tc : ℕ → Tree A) (b : ℕ → ℕ) (s : ℕ) → AreBits b → HaveNumbers r rd 32 tb b
    → Vanish r rd (xor_shift_trees r ta tb tc s) ↔ IsXorShift r rd ta b tc s

-- The tree of `pack_bits_le` is the number of the bits.
abbrev pub PackMeans : {A : Type 0} → Ring A → Reading A A → Type 0
PackMeans {A} r rd = (t : ℕ → Tree A) (f : ℕ → ℕ) (n : ℕ) → HaveNumbers r rd n t f → eval_tree rd (packed_bits r t 0 n) ≡ of_nat r (bits_number f 0 n)

-- The tree of `pack_bits_le` is the sum of the values at the n places, that at place i times 2^i.
abbrev pub PackSums : {A : Type 0} → Ring A → Reading A A → Type 0
PackSums {A} r rd = (t : ℕ → Tree A) (n : ℕ) → eval_tree rd (packed_bits r t 0 n) ≡ total r n (λ i. r.mul (of_nat r (2 ^ i)) (eval_tree rd (t i)))

-- The bits of a word are bits, and the word is the number of its bits.
abbrev pub BitsMean : ℕ → Type 0
BitsMean w = AreBits (bit_at w) × (bits_word (bit_at w) ≡ w)

-- zero or one
abbrev pub IsBit : {A : Type 0} → Ring A → A → Type 0
IsBit r x = (x ≡ r.zero) ⊎ (x ≡ r.one)

-- The tree of `assert_bool` is zero exactly where the value is zero or one.
abbrev pub BoolMeans : {A : Type 0} → Ring A → Reading A A → Type 0
BoolMeans {A} r rd = (t : Tree A) → (eval_tree rd (bool_tree r.one t) ≡ r.zero) ↔ IsBit r (eval_tree rd t)

-- The tree of `xor` is, of bits as numbers, the number of their exclusive or.
abbrev pub XorMeans : {A : Type 0} → Ring A → Reading A A → Type 0
XorMeans {A} r rd = (s t : Tree A) (m n : ℕ) → m < 2 → n < 2 → eval_tree rd s ≡ of_nat r m → eval_tree rd t ≡ of_nat r n → eval_tree rd (xor_tree r s t) ≡ of_nat r (bit_xor m n)

-- z is zero and x and y are equal, or z is one and they differ
abbrev pub TellsDifference : {A : Type 0} → Ring A → (x y z : A) → Type 0
TellsDifference r x y z = ((x ≡ y) × (z ≡ r.zero)) ⊎ ((x ≡ y → ⊥) × (z ≡ r.one))

-- The tree of `xor` is, of values that are zero or one, zero where they are equal and else one.
abbrev pub XorTells : {A : Type 0} → Ring A → Reading A A → Type 0
XorTells {A} r rd = (s t : Tree A) → IsBit r (eval_tree rd s) → IsBit r (eval_tree rd t) → TellsDifference r (eval_tree rd s) (eval_tree rd t) (eval_tree rd (xor_tree r s t))
