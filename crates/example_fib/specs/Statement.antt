-- What is stated of the table over the program's configuration, and what an accepted proof means.
use Rattle.std.specs.Prelude.{◌≡◌, ℕ, ◌-◌, ◌*◌, ◌^◌, ◌≤◌, List, [], ◌∷◌, length, All}
use Rattle.p3_field.specs.BabyBear.{baby_bear_ring}
use Rattle.p3_field.specs.Checks.{NoneFails}
use Rattle.p3_field.specs.Quartic.{quartic_ring}
use Rattle.p3_field.specs.declared.baby_bear.BabyBear.{BabyBear}
use Rattle.p3_field.specs.declared.quartic.QuarticExtension.{QuarticExtension}
use Rattle.plain_pcs.specs.Scheme.{PlainCommitmentData}
use Rattle.batch_setup.specs.Setup.{Instance}
use Rattle.batch_statement.specs.Statement.{Statement}
use Rattle.law_committed.specs.Batch.{IsUnluckyAlphaOfBatch, IsUnluckyZetaOfBatch}
use Rattle.law_committed.specs.Fields.{baby_bear_field, quartic_extension}
use Rattle.law_committed.specs.Unlucky.{AreDistinct}
use Rattle.law_honest.specs.HonestProof.{IsBuilt}
use Rattle.law_soundness.specs.CommittedBatch.{committed_batch}
use Rattle.law_soundness.specs.Meaning.{IsAlphaUnlucky, IsZetaUnlucky}
use Rattle.tool_airs.specs.Airs.{AirsBatch, AirsProof, airs_batch, airs_statement, height_check}
use Rattle.transcript_version.specs.declared.TranscriptVersion.TheVariants.{V2}
use Rattle.tool_statement.specs.Config.{tool_backend, tool_setting}
use Rattle.verifier_batch.specs.BatchChecks.{checks}
use Rattle.example_fib_air.specs.Fib.{fib, fib_declaration, fib_rows, fib_trees}
use Rattle.example_fib_air.specs.declared.air.FibAir.{FibAir}

-- the table of 2^log_rows rows with the public values start and number
abbrev pub fib_statement : (start number : BabyBear) → (log_rows : ℕ) → Statement BabyBear (PlainCommitmentData BabyBear)
fib_statement start number log_rows = airs_statement (λ (_ : FibAir). fib_declaration) (λ _. fib_trees) (λ _. []) (record {} ∷ []) (log_rows ∷ []) ((start ∷ number ∷ []) ∷ [])

abbrev pub fib_instance : (start number : BabyBear) → (log_rows : ℕ) → Instance FibAir BabyBear
fib_instance start number log_rows = record { air = record {}; trace = fib_rows baby_bear_ring start (2 ^ log_rows); public_values = start ∷ number ∷ [] }

abbrev pub fib_batch : (start number : BabyBear) → (log_rows : ℕ) → AirsBatch
fib_batch start number log_rows = airs_batch (λ (_ : FibAir). fib_declaration) (λ _. fib_trees) (λ _. []) (fib_instance start number log_rows ∷ [])

-- where neither drawn challenge is unlucky, it is number 2^log_rows of the sequence
abbrev pub IsNumber : (start number : BabyBear) → (log_rows : ℕ) → AirsProof → Type 0
IsNumber start number log_rows p =
    let s = fib_statement start number log_rows in
    (IsAlphaUnlucky (tool_setting V2) 1 s p → ⊥) → (IsZetaUnlucky (tool_setting V2) 1 s p → ⊥) → number ≡ fib baby_bear_ring start (2 ^ log_rows)

-- Few are unlucky: of alphas at most 4 * 2^log_rows, and of zetas, whatever alpha is, at most 2 * 2^log_rows - 1, in lists without repetitions.
pub record AreFew (start number : BabyBear) (log_rows : ℕ) (p : AirsProof) : Type 0 where
  pub alphas : (alphas : List QuarticExtension) → AreDistinct quartic_ring.zero alphas
      → All (IsUnluckyAlphaOfBatch baby_bear_field quartic_extension (committed_batch (tool_setting V2) 1 (fib_statement start number log_rows) p)) alphas → length alphas ≤ 4 * 2 ^ log_rows
  pub zetas : (alpha : QuarticExtension) (zetas : List QuarticExtension) → AreDistinct quartic_ring.zero zetas
      → All (IsUnluckyZetaOfBatch baby_bear_field quartic_extension (committed_batch (tool_setting V2) 1 (fib_statement start number log_rows) p) alpha) zetas → length zetas ≤ 2 * 2 ^ log_rows - 1

-- the honest proof passes every check, and the number is that one unless a drawn challenge is unlucky
pub record IsAccepted (start number : BabyBear) (log_rows : ℕ) : Type 0 where
  pub proof : AirsProof
  pub honest : let b = fib_batch start number log_rows in IsBuilt b.setting b.prover b.statement b.traces b.degree_bits proof
  pub passes : NoneFails (height_check 0 log_rows proof ∷ checks (tool_setting V2) tool_backend (fib_statement start number log_rows) proof)
  pub is_number : IsNumber start number log_rows proof
