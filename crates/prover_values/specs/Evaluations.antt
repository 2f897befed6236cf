-- What a prover is given of a table on its quotient domain, when it is that of a committed table, and the quotient's values that
-- follow. After Plonky3's p3-batch-stark (quotient_values).
use Rattle.std.specs.Prelude.{◌≡◌, ℕ, ◌-◌, ◌^◌, List, [], Option, None, Some}
use Rattle.p3_field.specs.Field.{TwoAdic, Extension}
use Rattle.p3_field.specs.Poly.{tabulate}
use Rattle.p3_field.specs.Domain.{CosetData, point}
use Rattle.p3_matrix.specs.Matrix.{Rows}
use Rattle.air_core.specs.Tree.{Tree}
use Rattle.commit_core.specs.Commitments.{Committed, IsEvaluated}
use Rattle.law_committed.specs.Committed.{CommittedTable, row_count_of}
use Rattle.law_committed.specs.Quotient.{quotient_value}

-- the values of a table's columns on a domain, a row for each point: the main, the preprocessed and the flattened permutation
-- columns; and its public values, its periodic columns, and the challenges and the terminal of its lookups
pub record Evaluations (F E : Type 0) : Type 0 where
  pub main : Rows F
  pub preprocessed : Option (Rows F)
  pub permutation : Option (Rows F)
  pub public_values : List F
  pub periodic : List (List F)
  pub challenges : List E
  pub terminals : List E

-- a matrix that may be absent has the values of these polynomials at n points; one that is absent, those of none
abbrev pub EvaluatedSome : {F : Type 0} → TwoAdic F → ℕ → (ℕ → F) → Committed F → Option (Rows F) → Type 0
EvaluatedSome f n p c None = c.polynomials ≡ []
EvaluatedSome f n p c (Some m) = IsEvaluated f.ring n p c m

-- What is given is the table's: each matrix has the values on the domain of the polynomials that the table commits to, and all
-- else is its own.
pub record IsReadOn {F E : Type 0} (f : TwoAdic F) (t : CommittedTable F E) (d : CosetData F) (v : Evaluations F E) : Type 0 where
  pub main : IsEvaluated f.ring (2 ^ d.log_size) (point f.ring f.root d) (record { size = row_count_of t; polynomials = t.main }) v.main
  pub preprocessed : EvaluatedSome f (2 ^ d.log_size) (point f.ring f.root d) (record { size = row_count_of t; polynomials = t.preprocessed }) v.preprocessed
  pub permutation : EvaluatedSome f (2 ^ d.log_size) (point f.ring f.root d) (record { size = row_count_of t; polynomials = t.permutation }) v.permutation
  pub public_values : t.public_values ≡ v.public_values
  pub periodic : t.periodic ≡ v.periodic
  pub challenges : t.challenges ≡ v.challenges
  pub terminals : t.terminals ≡ v.terminals

-- the values of the table's quotient at the points of the domain, in order
abbrev pub quotient_values_on : {F E : Type 0} → TwoAdic F → Extension F E → CommittedTable F E → List (Tree F) → E → CosetData F → List E
quotient_values_on f e t trees alpha d =
    tabulate (2 ^ d.log_size) (λ i. quotient_value f e t d.shift (d.log_size - t.log_height) trees alpha (point f.ring f.root d i))
