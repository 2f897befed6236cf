-- How few challenges are unlucky for the tables that any proof commits to, in a setting over fields with laws.
use Rattle.std.proofs.Common.{◌≡◌, ℕ, ◌≤◌, List, false, length, map, ap}
use Rattle.std.specs.Prelude.{All, cond, sum}
use Rattle.plain_pcs.specs.Scheme.{PlainCommitmentData}
use Rattle.law_committed.specs.Batch.{IsUnluckyAlphaOfBatch, IsUnluckyZetaOfBatch}
use Rattle.law_committed.specs.Fields.{FieldsLaws}
use Rattle.law_committed.specs.Identity.{chunk_count_of}
use Rattle.law_committed.specs.Unlucky.{AreDistinct}
use Rattle.batch_config.specs.Setting.{Setting}
use Rattle.batch_statement.specs.Proof.{ProofData}
use Rattle.batch_statement.specs.Statement.{Statement}
use Rattle.batch_statement.specs.Words.{bits_at}
use Rattle.verifier_batch.specs.OpeningChecks.{log_chunks_of_table}
use Rattle.law_soundness.specs.CommittedBatch.{chunk_count, committed_batch, committed_quotient}
use Rattle.law_soundness.specs.UnluckyCounts.{HasLowDegrees, most_alphas, most_zetas}
use Rattle.law_soundness.specs.Laws.Counts.{few_batch_alphas, few_batch_zetas}
use Rattle.law_soundness.specs.Laws.Opened.{domains_counted}

module _ {S F E P : Type 0} (c : Setting S F E (PlainCommitmentData F)) (log_blowup : ℕ) (s : Statement F (PlainCommitmentData F)) (p : ProofData F E (PlainCommitmentData F) P) where
  -- where nothing is masked, a quotient has as many chunks as the verifier counts
  pub chunks_of_any : (i : ℕ) → c.zk ≡ false → chunk_count_of (committed_quotient c log_blowup s p i) ≡ chunk_count c s p i
  chunks_of_any i unmasked = domains_counted c (ap (λ z. cond z 1 0) unmasked) (bits_at p.degree_bits i) (log_chunks_of_table c s p i)

  module _ (inverse : E → E) (L : FieldsLaws c.field c.extension c.two_adicity inverse) where
    pub alphas_of_any : (alphas : List E) → AreDistinct c.extension.ring.zero alphas → All (IsUnluckyAlphaOfBatch c.field c.extension (committed_batch c log_blowup s p)) alphas
        → length alphas ≤ sum (map most_alphas (committed_batch c log_blowup s p))
    alphas_of_any alphas distinct unlucky = few_batch_alphas c.field c.extension c.two_adicity inverse L (committed_batch c log_blowup s p) alphas distinct unlucky

    pub zetas_of_any : (alpha : E) (zetas : List E) → All (λ t. t.table.log_height ≤ c.two_adicity) (committed_batch c log_blowup s p)
        → All (HasLowDegrees c.field) (committed_batch c log_blowup s p) → AreDistinct c.extension.ring.zero zetas
        → All (IsUnluckyZetaOfBatch c.field c.extension (committed_batch c log_blowup s p) alpha) zetas
        → length zetas ≤ sum (map most_zetas (committed_batch c log_blowup s p))
    zetas_of_any alpha zetas fit low distinct unlucky =
        few_batch_zetas c.field c.extension c.two_adicity inverse L (committed_batch c log_blowup s p) alpha zetas fit low distinct unlucky
