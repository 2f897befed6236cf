-- What it means that a proof opens the values of committed polynomials (not in Plonky3).
use Rattle.std.specs.Prelude.{◌≡◌, ℕ, ◌<◌, true, length, All}
use Rattle.p3_field.specs.Field.{TwoAdic, Extension}
use Rattle.air_core.specs.Shape.{Declaration, width_of}
use Rattle.law_committed.specs.Committed.{CommittedTable, columns_at, next_point}
use Rattle.law_committed.specs.Identity.{CommittedQuotient, chunk_values}
use Rattle.plain_pcs.specs.Scheme.{PlainCommitmentData}
use Rattle.batch_config.specs.Setting.{Setting}
use Rattle.batch_statement.specs.Proof.{OpenedWithLookups, ProofData}
use Rattle.batch_statement.specs.Statement.{Statement}
use Rattle.verifier_shape.specs.ShapeChecks.{permutation_width}
use Rattle.batch_statement.specs.Words.{has_some, instance_at}
use Rattle.verifier_claims.specs.Claims.{preprocessed_local_row, preprocessed_next_row, values_where_there}
use Rattle.law_soundness.specs.CommittedBatch.{committed_quotient, committed_table_at, lookups_at, permutation_count, stated_table}

-- What is opened of a table that declares d is what its committed polynomials have at x, and at the next point: there its main and preprocessed columns are
-- opened where next columns are declared.
pub record AreCommittedValues {F E : Type 0} (f : TwoAdic F) (e : Extension F E) (d : Declaration F) (t : CommittedTable F E) (q : CommittedQuotient F) (x : E) (o : OpenedWithLookups E) : Type 0 where
  pub main_local : o.base.trace_local ≡ columns_at f e t t.main x
  pub main_next : has_some d.main_next ≡ true → values_where_there o.base.trace_next ≡ columns_at f e t t.main (next_point f e t x)
  pub preprocessed_local : preprocessed_local_row o.base.preprocessed ≡ columns_at f e t t.preprocessed x
  pub preprocessed_next : has_some d.preprocessed_next ≡ true → preprocessed_next_row o.base.preprocessed ≡ columns_at f e t t.preprocessed (next_point f e t x)
  pub permutation_local : o.permutation_local ≡ columns_at f e t t.permutation x
  pub permutation_next : o.permutation_next ≡ columns_at f e t t.permutation (next_point f e t x)
  pub chunks : o.base.quotient_chunks ≡ chunk_values f e q x

-- what a proof over the plain scheme opens of each table is what its committed polynomials have at x
abbrev pub AllCommittedValues : {S F E P : Type 0} → Setting S F E (PlainCommitmentData F) → (log_blowup : ℕ) → Statement F (PlainCommitmentData F) → ProofData F E (PlainCommitmentData F) P → (x : E) → Type 0
AllCommittedValues c log_blowup s p x =
    (i : ℕ) → i < length s.tables
    → AreCommittedValues c.field c.extension (stated_table s i).declaration (committed_table_at c log_blowup s p i) (committed_quotient c log_blowup s p i) x (instance_at p.instances i)

-- A committed table has the columns that an AIR with this declaration and so many lookups declares: main and preprocessed ones, the flattened permutation columns
-- (none without lookups), and for each chunk a column for each basis element. It has its public values, and a terminal where it has lookups.
pub record HasDeclaredColumns {F E : Type 0} (d : Declaration F) (lookups dimension : ℕ) (t : CommittedTable F E) (q : CommittedQuotient F) : Type 0 where
  pub main : length t.main ≡ d.width
  pub preprocessed : length t.preprocessed ≡ width_of d.preprocessed
  pub permutation : length t.permutation ≡ permutation_width lookups dimension
  pub public_values : length t.public_values ≡ d.public_values
  pub terminals : length t.terminals ≡ permutation_count lookups
  pub chunks : All (λ gs. length gs ≡ dimension) q.chunks

-- so each table that is committed to over the plain scheme
abbrev pub AllHaveColumns : {S F E P : Type 0} → Setting S F E (PlainCommitmentData F) → (log_blowup : ℕ) → Statement F (PlainCommitmentData F) → ProofData F E (PlainCommitmentData F) P → Type 0
AllHaveColumns c log_blowup s p =
    (i : ℕ) → i < length s.tables
    → HasDeclaredColumns (stated_table s i).declaration (length (lookups_at s i)) c.extension.dimension (committed_table_at c log_blowup s p i) (committed_quotient c log_blowup s p i)
