-- The table that an honest prover commits to: the interpolants of its traces' columns.
use Rattle.std.specs.Prelude.{◌≡◌, ℕ, ◌<◌, List, [], length, get_or, map, All, Option, None, Some}
use Rattle.p3_field.specs.Field.{TwoAdic, Extension}
use Rattle.p3_field.specs.Poly.{tabulate}
use Rattle.p3_field.specs.Newton.{newton}
use Rattle.p3_field.specs.Domain.{CosetData, point, subgroup}
use Rattle.p3_matrix.specs.Matrix.{Rows, FillsRows, column, height}
use Rattle.air_core.specs.Check.{TableTraces}
use Rattle.commit_core.specs.Periodic.{IsPeriod}
use Rattle.law_committed.specs.Committed.{CommittedTable}
use Rattle.law_committed.specs.Rows.{flattened_matrix}

-- the interpolant of values on a domain, by as many coefficients (Newton's form; no other list of that length has these values)
abbrev pub interpolant : {F : Type 0} → TwoAdic F → CosetData F → List F → List F
interpolant f d v = newton f.ring f.inv (length v) (point f.ring f.root d) (λ i. get_or v i f.ring.zero)

-- those of a matrix's columns
abbrev pub interpolants : {F : Type 0} → TwoAdic F → CosetData F → Rows F → List (List F)
interpolants f d m = map (interpolant f d) (tabulate m.width (column f.ring.zero m))

-- and of a matrix that may be absent
abbrev pub some_interpolants : {F : Type 0} → TwoAdic F → CosetData F → Option (Rows F) → List (List F)
some_interpolants f d None = []
some_interpolants f d (Some m) = interpolants f d m

-- traces of 2^k rows as a committed table, with these permutation columns, challenges and terminals
abbrev pub committed_traces : {F E : Type 0} → TwoAdic F → Extension F E → TableTraces F → Rows E → List E → List E → ℕ → CommittedTable F E
committed_traces f e traces columns challenges terminals k = record {
  main = interpolants f (subgroup f.ring k) traces.main;
  preprocessed = some_interpolants f (subgroup f.ring k) traces.preprocessed;
  permutation = interpolants f (subgroup f.ring k) (flattened_matrix e columns);
  public_values = traces.public_values;
  challenges = challenges;
  terminals = terminals;
  periodic = traces.periodic;
  log_height = k;
}

-- the matrix has whole rows, n of them unless it has no columns
pub record IsTall {F : Type 0} (n : ℕ) (m : Rows F) : Type 0 where
  pub fills : FillsRows m.values m.width
  pub tall : 0 < m.width → height m ≡ n

-- a matrix that may be absent is so
abbrev pub IsSomeTall : {F : Type 0} → ℕ → Option (Rows F) → Type 0
IsSomeTall n None = Unit {0}
IsSomeTall n (Some m) = IsTall n m

-- the traces and permutation columns have n rows, and each periodic column fits them
pub record HaveTraceRows {F E : Type 0} (n : ℕ) (traces : TableTraces F) (columns : Rows E) : Type 0 where
  pub tall : height traces.main ≡ n
  pub main : IsTall n traces.main
  pub preprocessed : IsSomeTall n traces.preprocessed
  pub permutation : IsTall n columns
  pub periods : All (λ period. IsPeriod n (length period)) traces.periodic
