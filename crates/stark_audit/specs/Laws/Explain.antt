-- What is explained of a file, and what `verify` answers: it is done exactly where the file is accepted, and else its first line of what fails has the name
-- and the numbers of `verify`'s refusal.
use Rattle.std.proofs.Common.{◌≡◌, ℕ, suc, ◌+◌, List, [], ◌∷◌, ◌++◌, length, codes, flat_map, refl, sym, ◌∙◌, ap, inl, inr, append_assoc}
use Rattle.std.proofs.lemmas.List.{append-nil}
use Rattle.plain_pcs.specs.declared.error.PlainError.{PlainError}
use Rattle.batch_statement.specs.declared.error.BatchVerificationError.{BatchVerificationError}
use Rattle.transcript_version.specs.declared.TranscriptVersion.{TranscriptVersion}
use Rattle.tool_proof_text.specs.ProofText.{ToolProofData}
use Rattle.tool_statement.specs.Config.{tool_setting, tool_backend}
use Rattle.tool_statement.specs.StatedTables.{HasStatedHeight, tool_statement}
use Rattle.tool_statement.specs.declared.table.TableStatement.{TableStatement}
use Rattle.tool_verifier.specs.FileAnswer.{IsAccepted}
use Rattle.tool_verifier.specs.Refusals.{fault_name, fault_numbers, fault_text}
use Rattle.tool_verifier.specs.declared.status.Status.{Status}
use Rattle.tool_verifier.specs.declared.status.Status.TheVariants.{Done, Refused, Usage, BadInput, ReadFault, WriteFault, OutOfMemory, TooLarge}
use Rattle.stark_audit.specs.Explain.{DoneWhereAccepted, IsExplained, IsReported, NamesRefusal, NamesRefusalElse, coefficient_numbers, compared}
use Rattle.audit_batch.specs.Report.{fails_line, failed_line, mismatch_line}
use Rattle.audit_batch.specs.Laws.Report.{first_fault, first_mismatch, nothing_fails, nothing_to_report}

-- lists one after another
five : (a b c d e : List ℕ) → a ++ (b ++ c) ++ d ++ e ≡ (a ++ b) ++ (c ++ d ++ e)
five a b c d e =
    ap (λ z. z ++ e) (append_assoc a (b ++ c) d) ∙ append_assoc a ((b ++ c) ++ d) e
    ∙ ap (λ z. a ++ z) (ap (λ z. z ++ e) (append_assoc b c d) ∙ append_assoc b (c ++ d) e) ∙ sym (append_assoc a b ((c ++ d) ++ e))

four : (a b c e : List ℕ) → (a ++ []) ++ (b ++ c) ++ e ≡ (a ++ b) ++ (c ++ e)
four a b c e =
    ap (λ z. (z ++ (b ++ c)) ++ e) (append-nil a) ∙ append_assoc a (b ++ c) e ∙ ap (λ z. a ++ z) (append_assoc b c e) ∙ sym (append_assoc a b (c ++ e))

module _ (version : TranscriptVersion) (tables : List TableStatement) (p : ToolProofData) (text : List ℕ) where
  pub explained_accepts : IsExplained version tables p Done text → IsAccepted version tables p
  explained_accepts r =
      nothing_fails (tool_setting version) tool_backend (tool_statement tables) p (compared tables p) (HasStatedHeight tables p.degree_bits) fault_name fault_numbers coefficient_numbers text 0 r refl

  pub accepted_explains : IsAccepted version tables p → IsExplained version tables p Refused text → ⊥
  accepted_explains a e =
      let z : suc e.0 ≡ 0 = nothing_to_report (tool_setting version) tool_backend (tool_statement tables) p (compared tables p) (HasStatedHeight tables p.degree_bits) fault_name fault_numbers coefficient_numbers text
      (suc e.0) e.1 a.0 a.1 in
      cc

  module _ (n : ℕ) (r : IsReported version tables p text (suc n)) where
    names_by : (hs : List ℕ) (fs : List (BatchVerificationError PlainError)) → r.heights ≡ hs → r.faults ≡ fs → NamesRefusal version tables p text
    unfolding fault_text
    names_by (i ∷ is) fs eh ef =
        let rest = flat_map (λ e. fails_line (fault_name e) (fault_numbers e)) r.faults in record {
          name = codes "HeightMismatch";
          fields = i ∷ [];
          refused = inl (
            i,
            first_mismatch (tool_setting version) tool_backend (tool_statement tables) p (compared tables p) (HasStatedHeight tables p.degree_bits) fault_name fault_numbers coefficient_numbers text (suc n) r i is eh,
            refl,
          );
          steps = r.steps;
          played = r.played;
          after = flat_map mismatch_line is ++ rest ++ failed_line (suc n);
          line = r.lines ∙ ap (λ hs. r.steps ++ flat_map mismatch_line hs ++ rest ++ failed_line (suc n)) eh
              ∙ five r.steps (mismatch_line i) (flat_map mismatch_line is) rest (failed_line (suc n));
        }
    names_by [] (e ∷ es) eh ef =
        let f = first_fault (tool_setting version) tool_backend (tool_statement tables) p (compared tables p) (HasStatedHeight tables p.degree_bits) fault_name fault_numbers coefficient_numbers text (suc n) r e es eh ef in record {
          name = fault_name e;
          fields = fault_numbers e;
          refused = inr (f.0, (e, f.1, refl));
          steps = r.steps;
          played = r.played;
          after = flat_map (λ x. fails_line (fault_name x) (fault_numbers x)) es ++ failed_line (suc n);
          line = r.lines ∙ (λ j. r.steps ++ flat_map mismatch_line (eh j) ++ flat_map (λ x. fails_line (fault_name x) (fault_numbers x)) (ef j) ++ failed_line (suc n))
              ∙ four r.steps (fails_line (fault_name e) (fault_numbers e)) (flat_map (λ x. fails_line (fault_name x) (fault_numbers x)) es) (failed_line (suc n));
        }
    names_by [] [] eh ef =
        let k : suc n ≡ 0 = r.counts ∙ (λ j. length (eh j) + length (ef j)) in
        absurd cc

  pub explained_names : IsExplained version tables p Refused text → NamesRefusal version tables p text
  explained_names e = names_by e.0 e.1 e.1.heights e.1.faults refl refl

-- both, for every status
pub explained_says : (version : TranscriptVersion) (tables : List TableStatement) (p : ToolProofData) (status : Status) (text : List ℕ) → IsExplained version tables p status text
    → DoneWhereAccepted version tables p status × NamesRefusalElse version tables p status text
explained_says version tables p Done text e = ((λ s. explained_accepts version tables p text e, λ a. refl), λ s. absurd cc)
explained_says version tables p Refused text e = ((λ s. absurd cc, λ a. absurd (accepted_explains version tables p text a e)), λ s. explained_names version tables p text e)
explained_says version tables p Usage text e = absurd e
explained_says version tables p BadInput text e = absurd e
explained_says version tables p ReadFault text e = absurd e
explained_says version tables p WriteFault text e = absurd e
explained_says version tables p OutOfMemory text e = absurd e
explained_says version tables p TooLarge text e = absurd e
