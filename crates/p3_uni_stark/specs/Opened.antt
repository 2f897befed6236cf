-- The values that a proof opens of one table, as plain data. After Plonky3's p3-uni-stark (OpenedValues).
use Rattle.std.specs.Prelude.{List, Option}

-- the preprocessed columns' values at the drawn point, and at the next where a next row is declared
pub record PreprocessedData (E : Type 0) : Type 0 where
  pub local : List E
  pub next : Option (List E)

-- the columns' values at the drawn point, the main ones' at the next point where a next row is declared, each quotient
-- chunk's coefficient columns' values, and the random polynomials' values where there are such
pub record OpenedData (E : Type 0) : Type 0 where
  pub trace_local : List E
  pub trace_next : Option (List E)
  pub preprocessed : Option (PreprocessedData E)
  pub quotient_chunks : List (List E)
  pub random : Option (List E)
