-- Traces that are given row by row.
use Rattle.std.specs.Prelude.{ℕ, List}
use Rattle.std.specs.List.{flat_map}
use Rattle.p3_field.specs.Poly.{tabulate}
use Rattle.p3_matrix.specs.Matrix.{Rows}

-- the values of n rows, of which row i is `row i`, and the matrix of these
abbrev pub values_of : {A : Type 0} → (row : ℕ → List A) → ℕ → List A
values_of row n = flat_map row (tabulate n (λ i. i))

abbrev pub rows_of : {A : Type 0} → (width : ℕ) → (row : ℕ → List A) → ℕ → Rows A
rows_of width row n = record { values = values_of row n; width = width }
