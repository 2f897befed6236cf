-- What the constraints over fields of characteristic 2 mean.
use Rattle.std.specs.Prelude.{◌≡◌, ℕ, suc, ◌+◌, ◌%◌, ◌^◌, ◌<◌, List, length, All, ◌++◌, ◌↔◌}
use Rattle.std.specs.Int.{bit_at}
use Rattle.p3_field.specs.Ring.{Ring}
use Rattle.air_core.specs.RowCheck.{Row, tree_value_at_row}
use Rattle.air_core.specs.Tree.{Tree, Reading}
use Rattle.air_gadgets.specs.Words.{Vanish, HaveNumbers}
use Rattle.blake3_compress.specs.Compress.{Quarter, half_quarter_round, quarter_round, Input}
use Rattle.blake3_compress.specs.TraceRow.{AreWords}
use Rattle.blake3_binary.specs.Sums.{sum2_trees, sum3_trees, turned, binary_half_trees, carry}
use Rattle.blake3_binary.specs.Trees.{binary_steps_trees, binary_trees}
use Rattle.blake3_binary.specs.Row.{binary_trace_row}

-- Where x and y have the bits of words, the trees are zero exactly where s has those of their sum.
abbrev pub Sum2Means : {A : Type 0} → Ring A → Reading A A → Type 0
Sum2Means {A} r rd = (x y s : ℕ → Tree A) (X Y : ℕ) → HaveNumbers r rd 32 x (bit_at X) → HaveNumbers r rd 32 y (bit_at Y)
    → Vanish r rd (sum2_trees x y s) ↔ HaveNumbers r rd 32 s (bit_at ((X + Y) % 2 ^ 32))

-- Where x, y and z have the bits of words, the trees are zero exactly where k has the carries of X + Y into places 1 to
-- 31, and s the bits of the sum of all three.
abbrev pub Sum3Means : {A : Type 0} → Ring A → Reading A A → Type 0
Sum3Means {A} r rd = (x y z k s : ℕ → Tree A) (X Y Z : ℕ) → HaveNumbers r rd 32 x (bit_at X) → HaveNumbers r rd 32 y (bit_at Y) → HaveNumbers r rd 32 z (bit_at Z)
    → Vanish r rd (sum3_trees x y z k s) ↔ (HaveNumbers r rd 31 k (λ i. carry X Y (suc i)) × HaveNumbers r rd 32 s (bit_at ((X + Y + Z) % 2 ^ 32)))

-- the words are words
pub record AreWords4 (q : Quarter) : Type 0 where
  pub a_word : q.a < 2 ^ 32
  pub b_word : q.b < 2 ^ 32
  pub c_word : q.c < 2 ^ 32
  pub d_word : q.d < 2 ^ 32

-- trees that represent the words of a step, by bits
pub record RepresentBits {A : Type 0} (r : Ring A) (rd : Reading A A) (a b c d : ℕ → Tree A) (q : Quarter) : Type 0 where
  pub a_bits : HaveNumbers r rd 32 a (bit_at q.a)
  pub b_bits : HaveNumbers r rd 32 b (bit_at q.b)
  pub c_bits : HaveNumbers r rd 32 c (bit_at q.c)
  pub d_bits : HaveNumbers r rd 32 d (bit_at q.d)

-- Where the trees before half a step and those of its message word represent words, its 95 trees are zero exactly
-- where k has the carries of a + b, and the words after it are those after that half of G.
abbrev pub BinaryHalfMeans : {A : Type 0} → Ring A → Reading A A → Type 0
BinaryHalfMeans {A} r rd = (s t : ℕ) (a b c d m k d' b' : ℕ → Tree A) (q : Quarter) (x : ℕ)
    → AreWords4 q → RepresentBits r rd a b c d q → HaveNumbers r rd 32 m (bit_at x)
    → Vanish r rd (binary_half_trees s t a b c d m k d' b')
    ↔ (HaveNumbers r rd 31 k (λ i. carry q.a q.b (suc i)) × RepresentBits r rd (turned d d' s) b' (turned b b' t) d' (half_quarter_round s t q x))

-- the cells of a step are those of G: the carries, and the words after each half
pub record IsBinaryStep {A : Type 0} (r : Ring A) (rd : Reading A A) (b d k d' b' l d'' b'' : ℕ → Tree A) (q : Quarter) (x y : ℕ) : Type 0 where
  pub carries1 : HaveNumbers r rd 31 k (λ i. carry q.a q.b (suc i))
  pub words1 : RepresentBits r rd (turned d d' 16) b' (turned b b' 12) d' (half_quarter_round 16 12 q x)
  pub carries2 : HaveNumbers r rd 31 l (λ i. carry (half_quarter_round 16 12 q x).a (half_quarter_round 16 12 q x).b (suc i))
  pub words2 : RepresentBits r rd (turned d' d'' 8) b'' (turned b' b'' 7) d'' (quarter_round q x y)

-- The law of one step: where the words before it and its two message words stand by bits, its 190 trees are zero
-- exactly where its cells are those of G.
abbrev pub BinaryStepMeans : {A : Type 0} → Ring A → Reading A A → Type 0
BinaryStepMeans {A} r rd = (a b c d m n k d' b' l d'' b'' : ℕ → Tree A) (q : Quarter) (x y : ℕ)
    → AreWords4 q → RepresentBits r rd a b c d q → HaveNumbers r rd 32 m (bit_at x) → HaveNumbers r rd 32 n (bit_at y)
    → Vanish r rd (binary_half_trees 16 12 a b c d m k d' b' ++ binary_half_trees 8 7 (turned d d' 16) b' (turned b b' 12) d' n l d'' b'')
    ↔ IsBinaryStep r rd b d k d' b' l d'' b'' q x y

-- the trees are zero at the row
abbrev pub Meets : {A : Type 0} → Ring A → Row A A → List (Tree A) → Type 0
Meets r row ts = All (λ t. tree_value_at_row r r (λ x. x) row t ≡ r.zero) ts

-- A row of 11536 cells meets all constraints exactly when it is the row of one compression.
abbrev pub BinaryRowMeans : {A : Type 0} → Ring A → Type 0
BinaryRowMeans {A} r = (row : Row A A) → length row.main_local ≡ 11536
    → Meets r row (binary_trees r) ↔ ((x : Input) × AreWords x × (row.main_local ≡ binary_trace_row r x))

-- The row of one compression has that compression's words alone.
abbrev pub BinaryWordsAreDetermined : {A : Type 0} → Ring A → Type 0
BinaryWordsAreDetermined r = (x y : Input) → AreWords x → AreWords y → binary_trace_row r x ≡ binary_trace_row r y → (i : ℕ) → i < 28 → x i ≡ y i

-- these 10640 cells complete the input's to rows that meet the constraints of the steps
pub record Completes {A : Type 0} (r : Ring A) (inputs cells : List A) : Type 0 where
  pub long : length cells ≡ 10640
  pub meets : (row : Row A A) → row.main_local ≡ inputs ++ cells → Meets r row (binary_steps_trees r)

-- Each choice of the input's 896 cells has exactly one completion: one completes them, and any row with them that
-- meets the constraints of the steps has it.
abbrev pub OneCompletion : {A : Type 0} → Ring A → Type 0
OneCompletion {A} r = (inputs : List A) → length inputs ≡ 896
    → (cells : List A) × Completes r inputs cells
    × ((row : Row A A) (others : List A) → length others ≡ 10640 → row.main_local ≡ inputs ++ others → Meets r row (binary_steps_trees r) → others ≡ cells)

-- how many constraints there are
pub record ConstraintCounts {F : Type 0} (r : Ring F) : Type 0 where
  pub all : length (binary_trees r) ≡ 11536
  pub steps : length (binary_steps_trees r) ≡ 10640
