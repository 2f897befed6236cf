-- The constraints of the AIR over prime fields, and where the row's words stand. After Plonky3's p3-blake3-air.
use Rattle.std.specs.Prelude.{ℕ, zero, suc, ◌+◌, ◌*◌, List, [], ◌++◌, false, None, Some}
use Rattle.p3_field.specs.Ring.{Ring}
use Rattle.p3_field.specs.Poly.{tabulate}
use Rattle.air_core.specs.Tree.{Tree, difference, bool_tree}
use Rattle.air_core.specs.Shape.{Declaration}
use Rattle.air_gadgets.specs.Gadgets.{number, add2_trees, add3_trees, packed_bits, xor_tree, xor_shift_trees}
use Rattle.air_gadgets.specs.Words.{limb}
use Rattle.blake3_prime.specs.declared.places.Place.{Place}
use Rattle.blake3_prime.specs.declared.places.Columns.{Columns}
pub use Rattle.blake3_compress.specs.Reading.{from_column}
use Rattle.blake3_compress.specs.Compress.{iv, column_of}
use Rattle.air_core.specs.Joined.{joined}
use Rattle.blake3_compress.specs.TraceRow.{turn_of, d_turn, b_turn, message_of}

-- the limbs of a word that is given by its bits
abbrev pub packed_limbs : {F : Type 0} → Ring F → (ℕ → Tree F) → ℕ → Tree F
packed_limbs r t k = packed_bits r t (16 * k) 16

-- where the state after n half rounds stands
abbrev pub place_of : ℕ → Place
place_of zero = record { row0 = 896; row1 = 640; row2 = 904; row3 = 768 }
place_of (suc n) = record { row0 = 912 + 272 * n; row1 = 920 + 272 * n; row2 = 1048 + 272 * n; row3 = 1056 + 272 * n }

-- half of a step, on the words a, b, c, d before it and those after it, and the message word m
unfoldable pub half_trees : {F : Type 0} → Ring F → ℕ → ℕ → (a b c d m a' b' c' d' : ℕ → Tree F) → List (Tree F)
half_trees r s t a b c d m a' b' c' d' =
    (add3_trees r a' a (packed_limbs r b) (packed_limbs r m) ++ xor_shift_trees r a' d d' s)
    ++ (add2_trees r c' c (packed_limbs r d') ++ xor_shift_trees r c' b b' t)

-- where the words of step g stand, by columns or by diagonals
abbrev pub columns_of_step : Place → ℕ → ℕ → Columns
columns_of_step p t g = record {
  a = p.row0 + 2 * column_of t 0 g;
  b = p.row1 + 32 * column_of t 1 g;
  c = p.row2 + 2 * column_of t 2 g;
  d = p.row3 + 32 * column_of t 3 g;
}

-- half a step, with the columns of its words before and after it
abbrev pub columns_trees : {F : Type 0} → Ring F → ℕ → ℕ → Columns → ℕ → Columns → List (Tree F)
columns_trees r s t before m after =
    half_trees r s t (from_column before.a) (from_column before.b) (from_column before.c) (from_column before.d) (from_column m)
    (from_column after.a) (from_column after.b) (from_column after.c) (from_column after.d)

-- step g of half round n
unfoldable pub step_half_trees : {F : Type 0} → Ring F → ℕ → ℕ → List (Tree F)
step_half_trees r n g =
    columns_trees r (d_turn n) (b_turn n) (columns_of_step (place_of n) (turn_of n) g) (32 * message_of n g) (columns_of_step (place_of (suc n)) (turn_of n) g)

-- a step: both its halves
unfoldable pub step_trees : {F : Type 0} → Ring F → ℕ → ℕ → List (Tree F)
step_trees r p g = joined 2 (λ h. step_half_trees r (2 * p + h) g)

-- four steps, by columns or by diagonals
unfoldable pub steps_trees : {F : Type 0} → Ring F → ℕ → List (Tree F)
steps_trees r p = joined 4 (step_trees r p)

-- the rounds: in turn four column steps and four diagonal steps
unfoldable pub rounds_trees : {F : Type 0} → Ring F → List (Tree F)
rounds_trees r = joined 14 (steps_trees r)

-- the cells are bits
unfoldable pub bits_trees : {F : Type 0} → Ring F → ℕ → ℕ → List (Tree F)
bits_trees r column n = tabulate n (λ i. bool_tree r.one (from_column column i))

-- the packed limbs of the bits from one column on are the limbs from another on
unfoldable pub packed_trees : {F : Type 0} → Ring F → ℕ → ℕ → List (Tree F)
packed_trees r column limbs = tabulate 2 (λ k. difference (packed_limbs r (from_column column) k) (from_column limbs k))

-- those of four words
unfoldable pub limbs_trees : {F : Type 0} → Ring F → ℕ → ℕ → List (Tree F)
limbs_trees r column limbs = joined 4 (λ i. packed_trees r (column + 32 * i) (limbs + 2 * i))

-- the limbs from a column on are those of a word
unfoldable pub word_trees : {F : Type 0} → Ring F → ℕ → ℕ → List (Tree F)
word_trees r column w = tabulate 2 (λ k. difference (from_column column k) (number r (limb w k)))

-- four words by limbs are those of the initial value
unfoldable pub iv_trees : {F : Type 0} → Ring F → ℕ → List (Tree F)
iv_trees r column = joined 4 (λ i. word_trees r (column + 2 * i) (iv i))

-- four words by limbs are the exclusive or of others by bits, and those of the mask are bits
unfoldable pub masked_trees : {F : Type 0} → Ring F → ℕ → ℕ → ℕ → List (Tree F)
masked_trees r limbs bits mask = joined 4 (λ i. xor_shift_trees r (from_column (limbs + 2 * i)) (from_column (bits + 32 * i)) (from_column (mask + 32 * i)) 0)

-- 128 cells are bit by bit the exclusive or of others
unfoldable pub xor_trees : {F : Type 0} → Ring F → ℕ → ℕ → ℕ → List (Tree F)
xor_trees r column left right = tabulate 128 (λ i. difference (from_column column i) (xor_tree r (from_column left i) (from_column right i)))

-- the constraints before the rounds: the input is bits, and the first state is the input's
unfoldable pub first_trees : {F : Type 0} → Ring F → List (Tree F)
first_trees r = bits_trees r 0 896 ++ limbs_trees r 512 896 ++ iv_trees r 904

-- the output's first four words, and the helpers, which are the last state's row 2
unfoldable pub first_output_trees : {F : Type 0} → Ring F → List (Tree F)
first_output_trees r = limbs_trees r 8528 (place_of 28).row2 ++ bits_trees r 8656 128 ++ masked_trees r (place_of 28).row0 8656 8528

-- the output's other words
unfoldable pub other_output_trees : {F : Type 0} → Ring F → List (Tree F)
other_output_trees r =
    xor_trees r 8784 (place_of 28).row1 (place_of 28).row3
    ++ xor_trees r 8912 512 8528
    ++ xor_trees r 9040 640 (place_of 28).row3

-- the constraints after the rounds
unfoldable pub last_trees : {F : Type 0} → Ring F → List (Tree F)
last_trees r = first_output_trees r ++ other_output_trees r

-- the constraints, in order
unfoldable pub blake3_trees : {F : Type 0} → Ring F → List (Tree F)
blake3_trees r = first_trees r ++ rounds_trees r ++ last_trees r

abbrev pub blake3_declaration : {F : Type 0} → Declaration F
blake3_declaration = record {
  width = 9168;
  preprocessed = None;
  main_next = [];
  preprocessed_next = [];
  public_values = 0;
  periodic = [];
  constraints = None;
  degree_hint = Some 3;
  boolean_trace = false;
}
