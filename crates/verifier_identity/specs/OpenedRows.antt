-- Opened values that stand for a row of permutation columns. After Plonky3's p3-batch-stark (verify_batch).
use Rattle.std.specs.Prelude.{ℕ, ◌+◌, ◌*◌, List, slice_range}
use Rattle.p3_field.specs.Field.{Extension, combine}
use Rattle.p3_field.specs.Poly.{tabulate}

-- the values of so many columns over E, each from those of its coefficients' columns: column j has the sum of basis element k times value
-- j * dimension + k
abbrev pub recombined_row : {F E : Type 0} → Extension F E → List E → ℕ → List E
recombined_row e row columns = tabulate columns (λ j. combine e.ring e.basis 0 (slice_range row (j * e.dimension) (j * e.dimension + e.dimension)))
