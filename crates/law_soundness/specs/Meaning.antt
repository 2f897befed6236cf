-- What an accepted proof over the plain scheme means (not in Plonky3).
use Rattle.std.specs.Prelude.{ℕ, ◌⊎◌}
use Rattle.plain_pcs.specs.Scheme.{PlainCommitmentData}
use Rattle.law_committed.specs.Batch.{AllHold, IsUnluckyAlphaOfBatch, IsUnluckyZetaOfBatch}
use Rattle.batch_config.specs.Setting.{Setting}
use Rattle.batch_statement.specs.Proof.{ProofData}
use Rattle.batch_statement.specs.Statement.{Statement}
use Rattle.verifier_batch.specs.BatchChecks.{drawn_of}
use Rattle.law_soundness.specs.CommittedBatch.{committed_batch}

module _ {S F E P : Type 0} (c : Setting S F E (PlainCommitmentData F)) (log_blowup : ℕ) (s : Statement F (PlainCommitmentData F)) (p : ProofData F E (PlainCommitmentData F) P) where
  -- each constraint of each committed table, those of its lookups included, is zero on each of its rows
  abbrev pub CommittedTablesHold : Type 0
  CommittedTablesHold = AllHold c.field c.extension (committed_batch c log_blowup s p)

  -- the drawn alpha is unlucky for some committed table
  abbrev pub IsAlphaUnlucky : Type 0
  IsAlphaUnlucky = IsUnluckyAlphaOfBatch c.field c.extension (committed_batch c log_blowup s p) (drawn_of c s p).alpha

  -- the drawn zeta is unlucky for some committed table
  abbrev pub IsZetaUnlucky : Type 0
  IsZetaUnlucky = IsUnluckyZetaOfBatch c.field c.extension (committed_batch c log_blowup s p) (drawn_of c s p).alpha (drawn_of c s p).zeta

  -- the tables hold, or one of the two is unlucky
  abbrev pub HoldUnlessUnlucky : Type 0
  HoldUnlessUnlucky = CommittedTablesHold ⊎ (IsAlphaUnlucky ⊎ IsZetaUnlucky)
