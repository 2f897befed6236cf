-- Openings of rows of committed matrices. The rules are those of Plonky3's p3-commit (Mmcs).
use Rattle.std.specs.Prelude.{◌≡◌, ℕ, ◌*◌, ◌/◌, ◌<◌, List, length, map, flat_map, All, Vec}
use Rattle.std.specs.Int.{IsPowerOfTwo}
use Rattle.p3_matrix.specs.Matrix.{Rows, height, row_at}
use Rattle.p3_matrix.specs.declared.dense.Dimensions.{Dimensions}
use Rattle.commit_core.specs.Periodic.{IsGreatest, EachFrom}

-- lists of items, where each is kept in a vector
abbrev pub lists : {T A : Type 0} → List (Vec T A) → List (List T)
lists vs = map (λ v. v.items) vs

-- there is a matrix, and each height is a power of two
pub record IsBatch {T : Type 0} (ms : List (Rows T)) : Type 0 where
  pub not_empty : 0 < length ms
  pub heights : All (λ m. IsPowerOfTwo (height m)) ms

-- i is the number of a row of the highest matrix
abbrev pub IsRowOf : {T : Type 0} → List (Rows T) → ℕ → Type 0
IsRowOf ms i = (n : ℕ) × (IsGreatest (map (λ m. height m) ms) n × (i < n))

-- Row i, counted in a matrix of `most` rows, in one of height h: the row i >> (log most - log h), where both are powers of
-- two. So the lowest bits of i are dropped.
abbrev pub row_in : ℕ → ℕ → ℕ → ℕ
row_in most h i = i / (most / h)

-- of each matrix the row that belongs to row i of the highest
abbrev pub AreRowsAt : {T : Type 0} → List (Rows T) → ℕ → List (List T) → Type 0
AreRowsAt ms i rows = (most : ℕ) → IsGreatest (map (λ m. height m) ms) most → rows ≡ map (λ m. row_at m (row_in most (height m) i)) ms

-- the widths and heights of matrices
abbrev pub dimensions_of : {T : Type 0} → List (Rows T) → List Dimensions
dimensions_of ms = map (λ m. record { width = m.width; height = height m }) ms

-- each row is as long as its matrix is wide
abbrev pub HaveWidths : {T : Type 0} → List Dimensions → List (List T) → Type 0
HaveWidths dimensions rows = EachFrom dimensions rows (λ d row. length row ≡ d.width)

-- a matrix over a larger field as one over its base: each value gives way to its d coefficients
abbrev pub flat_rows : {E F : Type 0} → (E → List F) → ℕ → Rows E → Rows F
flat_rows parts d m = record { values = flat_map parts m.values; width = m.width * d }

-- the dimensions of such a matrix
abbrev pub widened : ℕ → Dimensions → Dimensions
widened d s = record { width = s.width * d; height = s.height }

-- matrices over a larger field, and what an inner scheme keeps of them as matrices over the base
pub record FlatData (P E : Type 0) : Type 0 where
  pub inner : P
  pub matrices : List (Rows E)
