-- What is stated of the two tables over the program's configuration, and what an accepted proof of them means.
use Rattle.std.specs.Prelude.{◌≡◌, ℕ, ◌^◌, ◌<◌, List, [], ◌∷◌}
use Rattle.p3_field.specs.BabyBear.{baby_bear_ring}
use Rattle.p3_field.specs.Checks.{Check, NoneFails}
use Rattle.p3_field.specs.Quartic.{quartic_inv}
use Rattle.p3_field.specs.declared.baby_bear.BabyBear.{BabyBear}
use Rattle.plain_pcs.specs.Scheme.{PlainCommitmentData}
use Rattle.plain_pcs.specs.declared.error.PlainError.{PlainError}
use Rattle.batch_statement.specs.Statement.{Statement}
use Rattle.batch_statement.specs.declared.error.BatchVerificationError.{BatchVerificationError}
use Rattle.verifier_batch.specs.BatchChecks.{checks}
use Rattle.law_committed.specs.BaseRows.{main_row}
use Rattle.law_committed.specs.Fields.{baby_bear_field}
use Rattle.law_balance.specs.Accepted.{BalanceUnlessUnlucky}
use Rattle.law_soundness.specs.CommittedBatch.{committed_table_at}
use Rattle.law_soundness.specs.Meaning.{IsAlphaUnlucky, IsZetaUnlucky}
use Rattle.tool_airs.specs.Airs.{AirsProof, airs_statement, height_check, same_value}
use Rattle.transcript_version.specs.declared.TranscriptVersion.TheVariants.{V2}
use Rattle.tool_statement.specs.Config.{tool_backend, tool_setting}
use Rattle.example_air.specs.Bytes.{bits_row, example_declaration, example_interactions, example_trees}
use Rattle.example_air.specs.declared.air.ExampleAir.{ExampleAir}
use Rattle.example_air.specs.declared.air.ExampleAir.TheVariants.{Bits, Bytes}

-- the table of bits, which has 2^log_rows rows, and the table of all bytes, which has 2^8, both without public values
abbrev pub example_statement : (log_rows : ℕ) → Statement BabyBear (PlainCommitmentData BabyBear)
example_statement log_rows =
    airs_statement (example_declaration baby_bear_ring) (example_trees baby_bear_ring) (example_interactions baby_bear_ring) (Bits ∷ Bytes ∷ []) (log_rows ∷ 8 ∷ []) ([] ∷ [] ∷ [])

-- the checks of a proof of 2^log_rows bytes: that the table of bits has so many rows, and those of the verifier
abbrev pub bytes_checks : (log_rows : ℕ) → AirsProof → List (Check (BatchVerificationError PlainError))
bytes_checks log_rows p = height_check 0 log_rows p ∷ checks (tool_setting V2) tool_backend (example_statement log_rows) p

-- it passes them all
abbrev pub PassesChecks : (log_rows : ℕ) → AirsProof → Type 0
PassesChecks log_rows p = NoneFails (bytes_checks log_rows p)

-- What both committed tables send on the bus `bytes` balances in the field, or the drawn lookup pair, alpha or zeta is unlucky: each byte stands in the first
-- table as often as the second one counts it, in the field.
abbrev pub BytesBalance : (log_rows : ℕ) → AirsProof → Type 0
BytesBalance log_rows p = BalanceUnlessUnlucky (tool_setting V2) 1 (example_statement log_rows) p same_value quartic_inv

-- Where neither drawn challenge is unlucky, each of the 2^log_rows rows of the committed table of bits is the row of a byte: eight values that are zero or
-- one, and their number.
abbrev pub RowsAreBytes : (log_rows : ℕ) → AirsProof → Type 0
RowsAreBytes log_rows p =
    let s = example_statement log_rows in
    (IsAlphaUnlucky (tool_setting V2) 1 s p → ⊥) → (IsZetaUnlucky (tool_setting V2) 1 s p → ⊥)
    → (i : ℕ) → i < 2 ^ log_rows → (byte : ℕ) × (byte < 256) × (main_row baby_bear_field (committed_table_at (tool_setting V2) 1 s p 0) i ≡ bits_row baby_bear_ring byte)
