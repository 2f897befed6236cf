-- What the constraints mean: words that cells represent.
use Rattle.std.specs.Prelude.{◌≡◌, ℕ, ◌+◌, ◌*◌, ◌^◌, ◌<◌, ◌≤◌, length, All, ◌++◌, ◌↔◌}
use Rattle.std.specs.Int.{bit_at}
use Rattle.p3_field.specs.Ring.{Ring}
use Rattle.air_core.specs.Tree.{Tree, Reading}
use Rattle.air_core.specs.RowCheck.{Row, tree_value_at_row}
use Rattle.air_gadgets.specs.Words.{Vanish, HaveNumbers, limb}
use Rattle.blake3_prime.specs.declared.places.Place.{Place}
use Rattle.blake3_compress.specs.Compress.{Quarter, half_quarter_round, quarter_round, State, Input, output_of}
use Rattle.blake3_compress.specs.TraceRow.{state, trace_row, AreWords}
use Rattle.blake3_prime.specs.Trees.{half_trees, place_of, from_column, blake3_trees}

-- the trees represent the word's bits, or for its two limbs
abbrev pub HasBits : {A : Type 0} → Ring A → Reading A A → (ℕ → Tree A) → ℕ → Type 0
HasBits r rd t w = HaveNumbers r rd 32 t (bit_at w)

abbrev pub HasLimbs : {A : Type 0} → Ring A → Reading A A → (ℕ → Tree A) → ℕ → Type 0
HasLimbs r rd t w = HaveNumbers r rd 2 t (limb w)

-- trees that represent the words of a step: a and c by limbs, b and d by bits
pub record Represent4 {A : Type 0} (r : Ring A) (rd : Reading A A) (a b c d : ℕ → Tree A) (q : Quarter) : Type 0 where
  pub a_limbs : HasLimbs r rd a q.a
  pub b_bits : HasBits r rd b q.b
  pub c_limbs : HasLimbs r rd c q.c
  pub d_bits : HasBits r rd d q.d

-- the words are words
pub record AreWords4 (q : Quarter) : Type 0 where
  pub a_word : q.a < 2 ^ 32
  pub b_word : q.b < 2 ^ 32
  pub c_word : q.c < 2 ^ 32
  pub d_word : q.d < 2 ^ 32

-- Where the trees before half a step and those of its message word represent words, its 72 trees are zero exactly
-- where those after it represent the words after that half of G.
abbrev pub HalfMeans : {A : Type 0} → Ring A → Reading A A → Type 0
HalfMeans {A} r rd = (s t : ℕ) (a b c d m a' b' c' d' : ℕ → Tree A) (q : Quarter) (x : ℕ)
    → AreWords4 q → x < 2 ^ 32 → Represent4 r rd a b c d q → HasBits r rd m x
    → Vanish r rd (half_trees r s t a b c d m a' b' c' d') ↔ Represent4 r rd a' b' c' d' (half_quarter_round s t q x)

-- The law of one step: its 144 trees are zero exactly where the words after each half are those of G.
abbrev pub StepMeans : {A : Type 0} → Ring A → Reading A A → Type 0
StepMeans {A} r rd = (a b c d m a' b' c' d' n a'' b'' c'' d'' : ℕ → Tree A) (q : Quarter) (x y : ℕ)
    → AreWords4 q → x < 2 ^ 32 → y < 2 ^ 32 → Represent4 r rd a b c d q → HasBits r rd m x → HasBits r rd n y
    → Vanish r rd (half_trees r 16 12 a b c d m a' b' c' d' ++ half_trees r 8 7 a' b' c' d' n a'' b'' c'' d'')
    ↔ (Represent4 r rd a' b' c' d' (half_quarter_round 16 12 q x) × Represent4 r rd a'' b'' c'' d'' (quarter_round q x y))

-- the cells of a place represent a state: rows 0 and 2 by limbs, rows 1 and 3 by bits
pub record RepresentsState {A : Type 0} (r : Ring A) (rd : Reading A A) (p : Place) (v : State) : Type 0 where
  pub limbs0 : (i : ℕ) → i < 4 → HasLimbs r rd (from_column (p.row0 + 2 * i)) (v 0 i)
  pub bits1 : (i : ℕ) → i < 4 → HasBits r rd (from_column (p.row1 + 32 * i)) (v 1 i)
  pub limbs2 : (i : ℕ) → i < 4 → HasLimbs r rd (from_column (p.row2 + 2 * i)) (v 2 i)
  pub bits3 : (i : ℕ) → i < 4 → HasBits r rd (from_column (p.row3 + 32 * i)) (v 3 i)

-- the first 896 cells represent the input's words
abbrev pub RepresentsInput : {A : Type 0} → Ring A → Reading A A → Input → Type 0
RepresentsInput r rd x = (i : ℕ) → i < 28 → HasBits r rd (from_column (32 * i)) (x i)

-- the cells represent the words of one compression
pub record RepresentsRow {A : Type 0} (r : Ring A) (rd : Reading A A) (x : Input) : Type 0 where
  pub input : RepresentsInput r rd x
  pub states : (n : ℕ) → n ≤ 28 → RepresentsState r rd (place_of n) (state x n)
  pub helpers : (i : ℕ) → i < 4 → HasBits r rd (from_column (8528 + 32 * i)) (state x 28 2 i)
  pub outputs : (k i : ℕ) → k < 4 → i < 4 → HasBits r rd (from_column (8656 + 128 * k + 32 * i)) (output_of x (state x 28) k i)

-- The constraints are zero exactly where the cells represent the words of one compression.
abbrev pub CellsMean : {A : Type 0} → Ring A → Reading A A → Type 0
CellsMean r rd = Vanish r rd (blake3_trees r) ↔ ((x : Input) × AreWords x × RepresentsRow r rd x)

-- A row of 9168 cells meets all constraints exactly when it is the row of one compression.
abbrev pub RowMeans : {A : Type 0} → Ring A → Type 0
RowMeans {A} r = (row : Row A A) → length row.main_local ≡ 9168
    → All (λ t. tree_value_at_row r r (λ x. x) row t ≡ r.zero) (blake3_trees r) ↔ ((x : Input) × AreWords x × (row.main_local ≡ trace_row r x))

-- The row of one compression has that compression's words alone.
abbrev pub WordsAreDetermined : {A : Type 0} → Ring A → Type 0
WordsAreDetermined r = (x y : Input) → AreWords x → AreWords y → trace_row r x ≡ trace_row r y → (i : ℕ) → i < 28 → x i ≡ y i
