-- What prover data holds of a table, and the values of a table's columns on a domain.
use Rattle.std.specs.Prelude.{◌≡◌, ℕ, ◌^◌, ◌<◌, List, [], length, Option, None, Some, slice_get}
use Rattle.p3_field.specs.Domain.{CosetData, point}
use Rattle.p3_field.specs.Field.{TwoAdic}
use Rattle.p3_matrix.specs.Matrix.{Rows, height}
use Rattle.commit_core.specs.Commitments.{Committed, IsEvaluated}
use Rattle.law_committed.specs.Committed.{CommittedTable}
use Rattle.prover_answer.specs.Backend.{ProverBackend}
use Rattle.prover_quotients.specs.declared.columns.TableColumns.{TableColumns}
use Rattle.prover_quotients.specs.declared.places.Places.{Places}

module _ {S F E C D P R : Type 0} (k : ProverBackend S F E C D P R) where
  -- the backend made the prover data, whose matrix of this number holds these polynomials, at least one
  pub record HoldsAt (prover_data : D) (index : ℕ) (polynomials : List (List F)) : Type 0 where
    pub made_is : k.made prover_data
    pub commitment : C
    pub matrices : List (Committed F)
    pub holds_are : k.holds prover_data commitment matrices
    pub size : ℕ
    pub place_is : slice_get matrices index ≡ Some (record { size = size; polynomials = polynomials })
    pub some : 0 < length polynomials

  -- the same of a matrix that may be absent: then there is no polynomial
  abbrev pub HoldsSome : Option ℕ → Option D → List (List F) → Type 0
  HoldsSome None prover_data polynomials = polynomials ≡ []
  HoldsSome (Some index) None polynomials = ⊥
  HoldsSome (Some index) (Some d) polynomials = HoldsAt d index polynomials

  -- prover data of the preprocessed traces, of the main traces and of the permutation columns holds, at these places, what the table commits to
  pub record HoldsTable (places : Places) (preprocessed : Option D) (main : D) (permutation : Option D) (t : CommittedTable F E) : Type 0 where
    pub main_held : HoldsAt main places.main t.main
    pub preprocessed_held : HoldsSome places.preprocessed preprocessed t.preprocessed
    pub permutation_held : HoldsSome places.permutation permutation t.permutation

module _ {F : Type 0} (f : TwoAdic F) (d : CosetData F) where
  -- a matrix has the values of these polynomials at the points of the domain, a row for each
  pub record AreValuesOf (polynomials : List (List F)) (m : Rows F) : Type 0 where
    pub evaluated : (size : ℕ) → IsEvaluated f.ring (2 ^ d.log_size) (point f.ring f.root d) (record { size = size; polynomials = polynomials }) m
    pub tall : height m ≡ 2 ^ d.log_size

  abbrev pub AreSomeValues : List (List F) → Option (Rows F) → Type 0
  AreSomeValues polynomials None = polynomials ≡ []
  AreSomeValues polynomials (Some m) = AreValuesOf polynomials m

  -- the values of a table's columns
  pub record HaveTableValues {E : Type 0} (t : CommittedTable F E) (v : TableColumns F) : Type 0 where
    pub main_values : AreValuesOf t.main v.main
    pub preprocessed_values : AreSomeValues t.preprocessed v.preprocessed
    pub permutation_values : AreSomeValues t.permutation v.permutation
