-- Matrices by rows, as plain data. The rules are those of Plonky3's p3-matrix (RowMajorMatrix).
use Rattle.std.specs.Prelude.{◌≡◌, ℕ, ◌+◌, ◌*◌, ◌/◌, List, length, slice_range}
use Rattle.std.specs.Prelude.{slice_index_or as get_or}
use Rattle.p3_field.specs.Poly.{tabulate}

-- the values row after row, and how many a row has
pub record Rows (F : Type 0) : Type 0 where
  pub values : List F
  pub width : ℕ

-- the values fill whole rows; rows of width zero have none, since division by zero gives zero
abbrev pub FillsRows : {F : Type 0} → List F → ℕ → Type 0
FillsRows values width = length values / width * width ≡ length values

-- the number of rows; zero where the width is zero, since division by zero gives zero
abbrev pub height : {F : Type 0} → Rows F → ℕ
height m = length m.values / m.width

-- row i
abbrev pub row_at : {F : Type 0} → Rows F → ℕ → List F
row_at m i = slice_range m.values (i * m.width) (i * m.width + m.width)

-- the value in row i and column j; d, which no cell in range reads, is the answer past the end
abbrev pub cell_at : {F : Type 0} → F → Rows F → ℕ → ℕ → F
cell_at d m i j = get_or m.values (i * m.width + j) d

-- column j, from the first row to the last
unfoldable pub column : {F : Type 0} → F → Rows F → ℕ → List F
column d m j = tabulate (height m) (λ i. cell_at d m i j)
