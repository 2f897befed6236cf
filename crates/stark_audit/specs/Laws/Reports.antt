-- The report on a file, from what its parts found.
use Rattle.std.proofs.Common.{◌≡◌, ℕ, zero, suc, ◌+◌, List, ◌++◌, length, flat_map, refl, sym, subst}
use Rattle.p3_field.specs.Checks.{numbers}
use Rattle.plain_pcs.specs.declared.error.PlainError.{PlainError}
use Rattle.batch_statement.specs.declared.error.BatchVerificationError.{BatchVerificationError}
use Rattle.transcript_version.specs.declared.TranscriptVersion.{TranscriptVersion}
use Rattle.tool_proof_text.specs.ProofText.{ToolProofData}
use Rattle.tool_statement.specs.Config.{tool_setting, tool_backend}
use Rattle.tool_statement.specs.StatedTables.{HasStatedHeight, tool_statement}
use Rattle.tool_statement.specs.declared.table.TableStatement.{TableStatement}
use Rattle.tool_verifier.specs.Refusals.{fault_name, fault_numbers}
use Rattle.tool_verifier.specs.declared.status.Status.{Status}
use Rattle.tool_verifier.specs.declared.status.Status.TheVariants.{Done, Refused}
use Rattle.audit_batch.specs.Asked.{AreNamed, always}
use Rattle.audit_batch.specs.Audit.{audit}
use Rattle.audit_batch.specs.Report.{IsPlayedText, failed_line, fails_line, mismatch_line}
use Rattle.stark_audit.specs.Explain.{IsExplained, IsReported, coefficient_numbers, compared}

-- the text of a report with these parts
abbrev pub report_text : (steps heights : List ℕ) → List (BatchVerificationError PlainError) → ℕ → List ℕ
report_text steps heights faults count =
    steps ++ flat_map mismatch_line heights ++ flat_map (λ e. fails_line (fault_name e) (fault_numbers e)) faults ++ failed_line count

-- the status is that of the count
explained_at : (version : TranscriptVersion) (tables : List TableStatement) (p : ToolProofData) (text : List ℕ) (count : ℕ) → IsReported version tables p text count
    → (status : Status) → (count ≡ 0 → status ≡ Done) → ((count ≡ 0 → ⊥) → status ≡ Refused) → IsExplained version tables p status text
explained_at version tables p text zero r status done refused = subst (λ (s : Status). IsExplained version tables p s text) (sym (done refl)) r
explained_at version tables p text (suc n) r status done refused = subst (λ (s : Status). IsExplained version tables p s text) (sym (refused (λ e. cc))) (n, r)

-- the parts make the report
pub explained_by : (version : TranscriptVersion) (tables : List TableStatement) (p : ToolProofData) (steps heights : List ℕ) (faults : List (BatchVerificationError PlainError)) (text : List ℕ) (count : ℕ)
    → IsPlayedText (tool_setting version) tool_backend (tool_statement tables) p coefficient_numbers steps
    → AreNamed (always (numbers (compared tables p) (HasStatedHeight tables p.degree_bits))) heights
    → AreNamed (audit (tool_setting version) tool_backend (tool_statement tables) p) faults
    → count ≡ length heights + length faults → text ≡ report_text steps heights faults count
    → (status : Status) → (count ≡ 0 → status ≡ Done) → ((count ≡ 0 → ⊥) → status ≡ Refused) → IsExplained version tables p status text
explained_by version tables p steps heights faults text count played named failing counts lines status done refused =
    explained_at version tables p text count
    (record { steps = steps; heights = heights; faults = faults; played = played; mismatches = named; failing = failing; counts = counts; lines = lines })
    status done refused
