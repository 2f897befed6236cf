-- There is at most one answer, a status and a text, to the words and the bytes of an input.
use Rattle.std.proofs.Common.{◌≡◌, ℕ, zero, suc, ◌+◌, List, [], length, refl, sym, ◌∙◌, ap, subst, inl, inr}
use Rattle.p3_field.specs.Checks.{AreSingle, number_check, numbers}
use Rattle.p3_field.specs.Laws.Checks.{check_single, none_single, single_in_turn}
use Rattle.plain_pcs.specs.declared.error.PlainError.{PlainError}
use Rattle.batch_statement.specs.declared.error.BatchVerificationError.{BatchVerificationError}
use Rattle.transcript_version.specs.declared.TranscriptVersion.{TranscriptVersion}
use Rattle.tool_proof_text.specs.ProofText.{ToolProofData}
use Rattle.tool_proof_files.specs.Files.{FileData, FileWithin, file_numbers, version_of}
use Rattle.tool_proof_files.specs.Laws.Files.{file-grammar}
use Rattle.tool_statement.specs.Config.{tool_setting, tool_backend}
use Rattle.tool_statement.specs.StatedTables.{HasStatedHeight, tool_statement}
use Rattle.tool_statement.specs.declared.table.TableStatement.{TableStatement}
use Rattle.tool_run.specs.Laws.OneAnswer.{TextAnswer, one-answer, one-text}
use Rattle.tool_run.specs.Uniqueness.{AnswersOnce, HasOneAnswer, NameOneCommand}
use Rattle.tool_verifier.specs.FileAnswer.{SameAnswer}
use Rattle.tool_verifier.specs.declared.status.Status.{Status}
use Rattle.tool_verifier.specs.declared.status.Status.TheVariants.{Done, Refused, Usage, BadInput, ReadFault, WriteFault, OutOfMemory, TooLarge}
use Rattle.audit_batch.specs.Asked.{AreNamed, always}
use Rattle.audit_batch.specs.Audit.{audit}
use Rattle.audit_batch.specs.Laws.Asked.{in_always, same_named}
use Rattle.audit_batch.specs.Report.{IsPlayedText}
use Rattle.stark_audit.specs.Answer.{IsExplainAnswer, Names, audit_program}
use Rattle.stark_audit.specs.Explain.{IsExplained, IsReported, coefficient_numbers}
use Rattle.stark_audit.specs.Laws.Reports.{report_text}
use Rattle.stark_audit.specs.declared.command.Command.{Command}
use Rattle.stark_audit.specs.declared.command.Command.TheVariants.{Explain}

-- the numbers for which a property fails are one list
one-heights : (n : ℕ) (P : ℕ → Type 0) (is js : List ℕ) → AreNamed (always (numbers n P)) is → AreNamed (always (numbers n P)) js → is ≡ js
one-heights n P is js a b =
    let single : AreSingle (numbers n P) = single_in_turn (number_check P) n (λ i. check_single i (P i) [] (none_single ℕ)) in
    let listed = subst AreSingle (sym (in_always (numbers n P))) single in
    same_named (always (numbers n P)) is js listed a b

-- the status of so many things that fail
abbrev status_of : ℕ → Status
status_of zero = Done
status_of (suc n) = Refused

module _ (version : TranscriptVersion) (tables : List TableStatement) (p : ToolProofData) where
  one-played : (x y : List ℕ) → IsPlayedText (tool_setting version) tool_backend (tool_statement tables) p coefficient_numbers x
      → IsPlayedText (tool_setting version) tool_backend (tool_statement tables) p coefficient_numbers y → x ≡ y
  one-played x y (inl a) (inl b) = a.1 ∙ sym b.1
  one-played x y (inl a) (inr b) = absurd (b.0 a.0)
  one-played x y (inr a) (inl b) = absurd (a.0 b.0)
  one-played x y (inr a) (inr b) = a.1 ∙ sym b.1

  -- the refusals of all checks that are asked and fail are one list
  abbrev pub OneAudit : Type 0
  OneAudit = (ds es : List (BatchVerificationError PlainError)) → AreNamed (audit (tool_setting version) tool_backend (tool_statement tables) p) ds
      → AreNamed (audit (tool_setting version) tool_backend (tool_statement tables) p) es → ds ≡ es

  -- then the parts of a report are one, and so are its count and its text
  module _ (audits : OneAudit) where
    one-report : (x y : List ℕ) (m n : ℕ) → IsReported version tables p x m → IsReported version tables p y n → (m ≡ n) × (x ≡ y)
    one-report x y m n a b =
        let steps : a.steps ≡ b.steps = one-played a.steps b.steps a.played b.played in
        let heights : a.heights ≡ b.heights = one-heights _ _ a.heights b.heights a.mismatches b.mismatches in
        let faults : a.faults ≡ b.faults = audits a.faults b.faults a.failing b.failing in
        let count : m ≡ n = a.counts ∙ ((λ i. length (heights i) + length (faults i)) ∙ sym b.counts) in
        (count, a.lines ∙ ((λ i. report_text (steps i) (heights i) (faults i) (count i)) ∙ sym b.lines))

    counted : (s : Status) (x : List ℕ) → IsExplained version tables p s x → (n : ℕ) × IsReported version tables p x n × (s ≡ status_of n)
    counted Done x r = (0, r, refl)
    counted Refused x r = (suc r.0, r.1, refl)
    counted Usage x r = absurd r
    counted BadInput x r = absurd r
    counted ReadFault x r = absurd r
    counted WriteFault x r = absurd r
    counted OutOfMemory x r = absurd r
    counted TooLarge x r = absurd r

    one-explained : (s t : Status) (x y : List ℕ) → IsExplained version tables p s x → IsExplained version tables p t y → SameAnswer s t x y
    one-explained s t x y a b =
        let c = counted s x a in
        let d = counted t y b in
        let same = one-report x y c.0 d.0 c.1 d.1 in
        (c.2 ∙ (ap status_of same.0 ∙ sym d.2), same.1)

-- the status and the text of a file
abbrev IsFileExplained : FileData → Status → List ℕ → Type 0
IsFileExplained file s x = IsExplained (version_of file.version) file.tables file.proof s x

explain-view : (bytes : List ℕ) (s : Status) (x : List ℕ) → IsExplainAnswer bytes s x → TextAnswer FileWithin file_numbers IsFileExplained bytes s x
explain-view bytes BadInput x a = inl (refl, a)
explain-view bytes Done x a = inr (a.0, a.1, a.2, a.3)
explain-view bytes Refused x a = inr (a.0, a.1, a.2, a.3)
explain-view bytes Usage x a = inr (a.0, a.1, a.2, a.3)
explain-view bytes ReadFault x a = inr (a.0, a.1, a.2, a.3)
explain-view bytes WriteFault x a = inr (a.0, a.1, a.2, a.3)
explain-view bytes OutOfMemory x a = inr (a.0, a.1, a.2, a.3)
explain-view bytes TooLarge x a = inr (a.0, a.1, a.2, a.3)

-- where all tables and proofs have one such list
abbrev pub OneAuditOfEach : Type 0
OneAuditOfEach = (version : TranscriptVersion) (tables : List TableStatement) (p : ToolProofData) → OneAudit version tables p

once : OneAuditOfEach → (command : Command) → AnswersOnce audit_program command
once audits Explain bytes s t x y a b =
    one-text IsFileExplained file-grammar (λ f. one-explained (version_of f.version) f.tables f.proof (audits (version_of f.version) f.tables f.proof)) bytes s t x y (explain-view bytes s x a)
    (explain-view bytes t y b)

name : (words : List (List ℕ)) (c d : Command) → Names words c → Names words d → c ≡ d
name words Explain Explain p q = refl

pub one-name : (words : List (List ℕ)) → NameOneCommand audit_program words
one-name words c d p q = name words c d p q

-- the words and the bytes of an input have one status and one text
pub one-answer-of-audit : OneAuditOfEach → (words : List (List ℕ)) (bytes : List ℕ) → HasOneAnswer audit_program words bytes
one-answer-of-audit audits words bytes = one-answer audit_program words bytes (one-name words) (once audits)
