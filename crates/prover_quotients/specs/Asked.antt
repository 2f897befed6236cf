-- The checks of what the backend is asked for the quotients of a batch.
use Rattle.std.specs.Prelude.{ℕ, ◌^◌, List, [], ◌∷◌}
use Rattle.p3_field.specs.Checks.{Check}
use Rattle.p3_field.specs.Domain.{CosetData}
use Rattle.p3_matrix.specs.Matrix.{Rows}
use Rattle.commit_core.specs.Failure.{NoneOf}
use Rattle.batch_setup.specs.declared.error.ProverPhase.TheVariants.{QuotientEvaluations, QuotientCommitment}
use Rattle.prover_answer.specs.declared.error.ProvingError.{ProvingError}
use Rattle.prover_answer.specs.Backend.{ProverBackend}
use Rattle.prover_answer.specs.Batch.{Batch, log_parts_at}
use Rattle.prover_answer.specs.Proving.{IsPcsRefusal}
use Rattle.prover_quotients.specs.Tables.{chunks_by}

module _ {S F E C D P R : Type 0} (k : ProverBackend S F E C D P R) where
  -- the check that these chunks of a quotient, of which there are so many, are extended
  abbrev pub extending : List (CosetData F × Rows F) → ℕ → List (Check (ProvingError R))
  extending chunks n = record { refusal = IsPcsRefusal QuotientEvaluations (k.extension_fault chunks n); holds = NoneOf (k.extension_fault chunks n) } ∷ []

  -- the same of the chunks of table i of a batch, for these challenges of the tables' lookups, where alpha folds the constraints
  abbrev pub extending_at : Batch S F E C → (challenges : List (List E)) → E → ℕ → List (Check (ProvingError R))
  extending_at b challenges alpha i = extending (chunks_by b challenges alpha i) (2 ^ log_parts_at b i)

  -- the check that these extensions are committed to
  abbrev pub committing : List (Rows F) → List (Check (ProvingError R))
  committing ldes = record { refusal = IsPcsRefusal QuotientCommitment (k.ldes_fault ldes); holds = NoneOf (k.ldes_fault ldes) } ∷ []
