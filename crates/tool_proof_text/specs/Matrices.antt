-- The text of a matrix, and its limits (this project's own).
use Rattle.std.specs.Prelude.{◌≡◌, ℕ, zero, suc, ◌≤◌, ◌↔◌, List, ◌∷◌}
use Rattle.p3_field.specs.declared.baby_bear.BabyBear.{BabyBear}
use Rattle.p3_matrix.specs.Matrix.{Rows, FillsRows, height}
use Rattle.tool_lines.specs.Texts.{items_numbers, element_numbers}

-- its width, its height, and its elements row by row
abbrev pub matrix_numbers : Rows BabyBear → List ℕ
matrix_numbers m = m.width ∷ height m ∷ items_numbers element_numbers m.values

-- at most 16384 columns and at most 4096 rows, which the elements fill, and no rows exactly where there are no columns
pub record MatrixWithin (m : Rows BabyBear) : Type 0 where
  pub columns : m.width ≤ 16384
  pub rows : height m ≤ 4096
  pub empty : (height m ≡ 0) ↔ (m.width ≡ 0)
  pub fills : FillsRows m.values m.width

-- the heights of matrices of a width: from the least to the most
abbrev pub least_height : ℕ → ℕ
least_height zero = 0
least_height (suc w) = 1

abbrev pub most_height : ℕ → ℕ
most_height zero = 0
most_height (suc w) = 4096
