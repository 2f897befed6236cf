-- What the verifier says of the data that is made of AIRs, it says of their statement.
use Rattle.std.proofs.Common.{◌≡◌, ℕ, ◌<◌, ◌≤◌, List, length, map, Result, Err, subst}
use Rattle.std.specs.Prelude.{All, sum}
use Rattle.p3_field.specs.BabyBear.{baby_bear_ring, baby_bear_inv, baby_bear_root, reduce}
use Rattle.p3_field.specs.declared.baby_bear.BabyBear.{BabyBear}
use Rattle.p3_field.specs.declared.quartic.QuarticExtension.{QuarticExtension}
use Rattle.p3_challenger.specs.declared.sha256_challenger.Sha256Challenger.{Sha256Challenger}
use Rattle.plain_pcs.specs.Scheme.{Blowup, PlainCommitmentData}
use Rattle.plain_pcs.specs.declared.error.PlainError.{PlainError}
use Rattle.batch_config.specs.Setting.{Setting}
use Rattle.batch_statement.specs.Statement.{AirTable, Common, Statement}
use Rattle.batch_statement.specs.Verdict.{IsRefusal, IsVerdict}
use Rattle.batch_statement.specs.declared.error.BatchVerificationError.{BatchVerificationError}
use Rattle.law_committed.specs.Batch.{IsUnluckyAlphaOfBatch, IsUnluckyZetaOfBatch}
use Rattle.law_committed.specs.Identity.{chunk_count_of}
use Rattle.law_committed.specs.Unlucky.{AreDistinct}
use Rattle.law_soundness.specs.CommittedBatch.{chunk_count, committed_batch, committed_quotient}
use Rattle.law_soundness.specs.UnluckyCounts.{most_alphas, most_zetas}
use Rattle.verifier_batch.specs.BatchChecks.{checks}
use Rattle.tool_airs.proofs.Made.{scheme_with}
use Rattle.tool_airs.specs.Airs.{AirsProof, HasFewUnlucky}
use Rattle.transcript_version.specs.declared.TranscriptVersion.TheVariants.{V2}
use Rattle.tool_statement.specs.Config.{backend_of, tool_backend, tool_setting}

abbrev ToolSetting : Type 0
ToolSetting = Setting Sha256Challenger BabyBear QuarticExtension (PlainCommitmentData BabyBear)

abbrev ToolStatement : Type 0
ToolStatement = Statement BabyBear (PlainCommitmentData BabyBear)

-- these tables with these public values and this data
abbrev with_data : List (AirTable BabyBear) → List (List BabyBear) → Common BabyBear (PlainCommitmentData BabyBear) → ToolStatement
with_data ts ps m = record { tables = ts; publics = ps; common = m }

pub verdict_is : {T : Type 0} (ts : List (AirTable BabyBear)) (ps : List (List BabyBear)) (c : ToolSetting) (b : Blowup) (m n : Common BabyBear (PlainCommitmentData BabyBear)) (p : AirsProof) (r : Result T (BatchVerificationError PlainError))
    → c ≡ (tool_setting V2) → b ≡ record { log_blowup = 1 } → m ≡ n
    → IsVerdict (checks c (backend_of (scheme_with b)) (with_data ts ps m) p) r → IsVerdict (checks (tool_setting V2) tool_backend (with_data ts ps n) p) r
unfolding tool_backend
verdict_is ts ps c b m n p r e f k h =
    subst (λ (x : Common BabyBear (PlainCommitmentData BabyBear)). IsVerdict (checks (tool_setting V2) (backend_of (scheme_with (record { log_blowup = 1 }))) (with_data ts ps x) p) r) k
    (subst (λ (d : ToolSetting). IsVerdict (checks d (backend_of (scheme_with (record { log_blowup = 1 }))) (with_data ts ps m) p) r) e
    (subst (λ (a : Blowup). IsVerdict (checks c (backend_of (scheme_with a)) (with_data ts ps m) p) r) f h))

pub refusal_is : (ts : List (AirTable BabyBear)) (ps : List (List BabyBear)) (c : ToolSetting) (b : Blowup) (m n : Common BabyBear (PlainCommitmentData BabyBear)) (p : AirsProof) (r : BatchVerificationError PlainError)
    → c ≡ (tool_setting V2) → b ≡ record { log_blowup = 1 } → m ≡ n
    → IsRefusal (checks c (backend_of (scheme_with b)) (with_data ts ps m) p) r → IsRefusal (checks (tool_setting V2) tool_backend (with_data ts ps n) p) r
refusal_is ts ps c b m n p r e f k h = verdict_is {T = Unit {0}} ts ps c b m n p (Err r) e f k h

-- what holds of a configuration, a blowup and a statement that are these
pub carried : (P : ToolSetting → Blowup → ToolStatement → Type 0) (ts : List (AirTable BabyBear)) (ps : List (List BabyBear)) (c : ToolSetting) (b : Blowup) (m n : Common BabyBear (PlainCommitmentData BabyBear))
    → c ≡ (tool_setting V2) → b ≡ record { log_blowup = 1 } → m ≡ n → P c b (with_data ts ps m) → P (tool_setting V2) (record { log_blowup = 1 }) (with_data ts ps n)
carried P ts ps c b m n e f k h =
    subst (λ (x : Common BabyBear (PlainCommitmentData BabyBear)). P (tool_setting V2) (record { log_blowup = 1 }) (with_data ts ps x)) k
    (subst (λ (a : Blowup). P (tool_setting V2) a (with_data ts ps m)) f (subst (λ (d : ToolSetting). P d b (with_data ts ps m)) e h))

-- and how few challenges are unlucky
pub few_is : (ts : List (AirTable BabyBear)) (ps : List (List BabyBear)) (c : ToolSetting) (b : Blowup) (m n : Common BabyBear (PlainCommitmentData BabyBear)) (p : AirsProof)
    → c ≡ tool_setting V2 → b ≡ record { log_blowup = 1 } → m ≡ n
    → ((alphas : List QuarticExtension) → AreDistinct c.extension.ring.zero alphas → All (IsUnluckyAlphaOfBatch c.field c.extension (committed_batch c b.log_blowup (with_data ts ps m) p)) alphas
    → length alphas ≤ sum (map most_alphas (committed_batch c b.log_blowup (with_data ts ps m) p)))
    → ((alpha : QuarticExtension) (zetas : List QuarticExtension) → AreDistinct c.extension.ring.zero zetas → All (IsUnluckyZetaOfBatch c.field c.extension (committed_batch c b.log_blowup (with_data ts ps m) p) alpha) zetas
    → length zetas ≤ sum (map most_zetas (committed_batch c b.log_blowup (with_data ts ps m) p)))
    → ((i : ℕ) → i < length ts → chunk_count_of (committed_quotient c b.log_blowup (with_data ts ps m) p i) ≡ chunk_count c (with_data ts ps m) p i) → HasFewUnlucky (with_data ts ps n) p
unfolding tool_setting
few_is ts ps c b m n p e f k alphas zetas chunks = record {
  alphas = carried (λ d a s. (alphas : List QuarticExtension) → AreDistinct d.extension.ring.zero alphas → All (IsUnluckyAlphaOfBatch d.field d.extension (committed_batch d a.log_blowup s p)) alphas
      → length alphas ≤ sum (map most_alphas (committed_batch d a.log_blowup s p))) ts ps c b m n e f k alphas;
  zetas = carried (λ d a s. (alpha : QuarticExtension) (zetas : List QuarticExtension) → AreDistinct d.extension.ring.zero zetas → All (IsUnluckyZetaOfBatch d.field d.extension (committed_batch d a.log_blowup s p) alpha) zetas
      → length zetas ≤ sum (map most_zetas (committed_batch d a.log_blowup s p))) ts ps c b m n e f k zetas;
  chunks = carried (λ d a s. (i : ℕ) → i < length ts → chunk_count_of (committed_quotient d a.log_blowup s p i) ≡ chunk_count d s p i) ts ps c b m n e f k chunks;
}
