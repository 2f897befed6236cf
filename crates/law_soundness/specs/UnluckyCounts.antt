-- How many challenges may be unlucky for a committed table (not in Plonky3). Nothing is said of how likely such a
-- challenge is drawn.
use Rattle.std.specs.Prelude.{ℕ, ◌+◌, ◌-◌, ◌*◌, max, length, map}
use Rattle.air_core.specs.Degree.{full_polynomial_degree}
use Rattle.p3_field.specs.Field.{TwoAdic}
use Rattle.air_core.specs.Degree.{greatest}
use Rattle.law_committed.specs.Batch.{DividedTable}
use Rattle.law_committed.specs.Committed.{IsBounded, table_periods_of, row_count_of}
use Rattle.law_committed.specs.Identity.{IsBoundedQuotient, chunk_count_of}

-- of alphas: for each row one less than constraints
abbrev pub most_alphas : {F E : Type 0} → DividedTable F E → ℕ
most_alphas t = row_count_of t.table * (length t.trees - 1)

-- the largest degree of a constraint's polynomial over the table's rows, which doesn't stop at the greatest `usize`
abbrev pub largest_full_degree : {F E : Type 0} → DividedTable F E → ℕ
largest_full_degree t = greatest 0 (map (full_polynomial_degree (row_count_of t.table) (table_periods_of t.table)) t.trees)

-- of zetas: the larger of that degree and of n (C + 1) - 1, for n rows and C chunks
abbrev pub most_zetas : {F E : Type 0} → DividedTable F E → ℕ
most_zetas t = max (largest_full_degree t) (row_count_of t.table * (chunk_count_of t.quotient + 1) - 1)

-- the degrees of all polynomials of a table and of its quotient are below its height, and its periodic columns fit
pub record HasLowDegrees {F E : Type 0} (f : TwoAdic F) (t : DividedTable F E) : Type 0 where
  pub table : IsBounded f t.table
  pub quotient : IsBoundedQuotient f t.table t.quotient
