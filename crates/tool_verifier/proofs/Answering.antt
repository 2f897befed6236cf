-- What `verify` answers, from what its parts found.
use Rattle.std.proofs.Common.{◌≡◌, ℕ, List, length, None, Some, inl, inr, refl, sym, subst}
use Rattle.std.specs.Prelude.{min}
use Rattle.p3_field.specs.Checks.{FirstFailing, NoneFails}
use Rattle.plain_pcs.specs.declared.error.PlainError.{PlainError}
use Rattle.batch_statement.specs.declared.error.BatchVerificationError.{BatchVerificationError}
use Rattle.batch_statement.specs.declared.error.BatchVerificationError.TheVariants.{Verification, Lookup, Transcript, OutOfMemory}
use Rattle.batch_statement.specs.Verdict.{IsRefusal}
use Rattle.verifier_batch.specs.BatchChecks.{FirstFault, checks}
use Rattle.transcript_version.specs.declared.TranscriptVersion.{TranscriptVersion}
use Rattle.tool_statement.specs.Config.{tool_setting, tool_backend}
use Rattle.tool_statement.specs.StatedTables.{HasStatedHeight, HaveStatedHeights, tool_statement}
use Rattle.tool_statement.specs.declared.table.TableStatement.{TableStatement}
use Rattle.tool_proof_text.specs.ProofText.{ToolProofData}
use Rattle.tool_verifier.specs.FileAnswer.{IsFileAnswer, IsMeant, accepted_text, mismatch_text}
use Rattle.tool_verifier.specs.Refusals.{fault_text}
use Rattle.tool_verifier.specs.declared.status.Status.{Status}
use Rattle.tool_verifier.specs.declared.status.Status.TheVariants.{Done, Refused}

-- a table has another height
pub mismatched : (version : TranscriptVersion) (tables : List TableStatement) (p : ToolProofData) (bits : List ℕ) → bits ≡ p.degree_bits → (i : ℕ) → FirstFailing (min (length tables) (length bits)) (HasStatedHeight tables bits) (Some i)
    → (s : Status) (x : List ℕ) → s ≡ Refused → x ≡ mismatch_text i → IsFileAnswer version tables p s x
unfolding IsFileAnswer
mismatched version tables p bits e i f s x r t =
    subst (λ (u : Status). IsFileAnswer version tables p u x) (sym r)
    (inl (i, subst (λ (b : List ℕ). FirstFailing (min (length tables) (length b)) (HasStatedHeight tables b) (Some i)) e f, t))

module _ (version : TranscriptVersion) (tables : List TableStatement) (p : ToolProofData) (bits : List ℕ) (e : bits ≡ p.degree_bits) (h : FirstFailing (min (length tables) (length bits)) (HasStatedHeight tables bits) None) where
  pub heights : HaveStatedHeights tables p.degree_bits
  heights = subst (λ (b : List ℕ). FirstFailing (min (length tables) (length b)) (HasStatedHeight tables b) None) e h

  -- no check fails
  pub accepted : NoneFails (checks (tool_setting version) tool_backend (tool_statement tables) p) → IsMeant version tables p → (x : List ℕ) → x ≡ accepted_text tables p → IsFileAnswer version tables p Done x
  unfolding IsFileAnswer
  accepted a m x t = ((heights, a), m, t)

  -- one does, and is named
  first_of : (f : BatchVerificationError PlainError) → (f ≡ OutOfMemory → ⊥) → IsRefusal (checks (tool_setting version) tool_backend (tool_statement tables) p) f
      → FirstFault (tool_setting version) tool_backend (tool_statement tables) p f
  first_of (Verification f) n r = r
  first_of (Lookup f) n r = r
  first_of (Transcript f) n r = r
  first_of OutOfMemory n r = absurd (n refl)

  pub faulted : (f : BatchVerificationError PlainError) → (f ≡ OutOfMemory → ⊥) → IsRefusal (checks (tool_setting version) tool_backend (tool_statement tables) p) f
      → (s : Status) (x : List ℕ) → s ≡ Refused → x ≡ fault_text f → IsFileAnswer version tables p s x
  unfolding IsFileAnswer
  faulted f n r s x w t =
      subst (λ (u : Status). IsFileAnswer version tables p u x) (sym w) (inr (heights, (f, first_of f n r, t)))
