-- What the command answers, from what is read and explained.
use Rattle.std.specs.Prelude.{◌≡◌, ℕ, List, Result, Ok, Err, IfOk}
use Rattle.std.proofs.Common.{sym, subst}
use Rattle.std.specs.declared.alloc.AllocError.{AllocError}
use Rattle.tool_lines.specs.Texts.{line_text}
use Rattle.tool_proof_files.specs.Files.{FileData, FileWithin, file_numbers, version_of}
use Rattle.tool_run.specs.BadInput.{IsBadInput}
use Rattle.tool_verifier.specs.declared.answer.Answer.{Answer}
use Rattle.tool_verifier.specs.declared.status.Status.{Status}
use Rattle.tool_verifier.specs.declared.status.Status.TheVariants.{Done, Refused, Usage, BadInput, ReadFault, WriteFault, OutOfMemory, TooLarge}
use Rattle.stark_audit.specs.Answer.{IsExplainAnswer}
use Rattle.stark_audit.specs.Explain.{IsExplained}
use Rattle.stark_audit.specs.Laws.Explain.{explained_says}

-- the answer for bytes that are no file's lines
pub explain_bad : (bytes : List ℕ) (r : Result Answer AllocError) → IfOk r (λ a. (a.status ≡ BadInput) × IsBadInput FileWithin file_numbers bytes a.text.items)
    → IfOk r (λ a. IsExplainAnswer bytes a.status a.text.items)
explain_bad bytes (Ok a) h = subst (λ (s : Status). IsExplainAnswer bytes s a.text.items) (sym h.0) h.1
explain_bad bytes (Err x) h = tt

explained_file_at : (bytes : List ℕ) (file : FileData) (status : Status) (text : List ℕ) → FileWithin file → bytes ≡ line_text (file_numbers file)
    → IsExplained (version_of file.version) file.tables file.proof status text → IsExplainAnswer bytes status text
explained_file_at bytes file Done text w b e = let s = explained_says (version_of file.version) file.tables file.proof Done text e in (file, w, b, e, s.0, s.1)
explained_file_at bytes file Refused text w b e = let s = explained_says (version_of file.version) file.tables file.proof Refused text e in (file, w, b, e, s.0, s.1)
explained_file_at bytes file Usage text w b e = absurd e
explained_file_at bytes file BadInput text w b e = absurd e
explained_file_at bytes file ReadFault text w b e = absurd e
explained_file_at bytes file WriteFault text w b e = absurd e
explained_file_at bytes file OutOfMemory text w b e = absurd e
explained_file_at bytes file TooLarge text w b e = absurd e

-- the answer for those of a file
pub explained_file : (bytes : List ℕ) (file : FileData) (r : Result Answer AllocError) → FileWithin file → bytes ≡ line_text (file_numbers file)
    → IfOk r (λ a. IsExplained (version_of file.version) file.tables file.proof a.status a.text.items) → IfOk r (λ a. IsExplainAnswer bytes a.status a.text.items)
explained_file bytes file (Ok a) w b h = explained_file_at bytes file a.status a.text.items w b h
explained_file bytes file (Err x) w b h = tt
