-- What makes a challenge unlucky of one proof makes it so of another (not in Plonky3).
use Rattle.std.specs.Prelude.{ℕ}
use Rattle.plain_pcs.specs.Scheme.{PlainCommitmentData}
use Rattle.law_committed.specs.Batch.{IsUnluckyAlphaOfBatch, IsUnluckyZetaOfBatch}
use Rattle.batch_config.specs.Setting.{Setting}
use Rattle.batch_statement.specs.Proof.{ProofData}
use Rattle.batch_statement.specs.Statement.{Statement}
use Rattle.law_soundness.specs.CommittedBatch.{committed_batch}

-- each alpha that is unlucky of what the first proof commits to is unlucky of what the second does
abbrev pub ShareUnluckyAlphas : {S F E O : Type 0} → Setting S F E (PlainCommitmentData F) → (log_blowup : ℕ) → Statement F (PlainCommitmentData F)
    → (p q : ProofData F E (PlainCommitmentData F) O) → Type 0
ShareUnluckyAlphas {E = E} c log_blowup s p q =
    (alpha : E) → IsUnluckyAlphaOfBatch c.field c.extension (committed_batch c log_blowup s p) alpha
    → IsUnluckyAlphaOfBatch c.field c.extension (committed_batch c log_blowup s q) alpha

-- each zeta that is unlucky after alpha of the first proof is so of the second
abbrev pub ShareUnluckyZetas : {S F E O : Type 0} → Setting S F E (PlainCommitmentData F) → (log_blowup : ℕ) → Statement F (PlainCommitmentData F)
    → (p q : ProofData F E (PlainCommitmentData F) O) → Type 0
ShareUnluckyZetas {E = E} c log_blowup s p q =
    (alpha zeta : E) → IsUnluckyZetaOfBatch c.field c.extension (committed_batch c log_blowup s p) alpha zeta
    → IsUnluckyZetaOfBatch c.field c.extension (committed_batch c log_blowup s q) alpha zeta
