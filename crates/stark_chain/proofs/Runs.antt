-- What the commands answer, from what their parts do.
use Rattle.std.proofs.Common.{◌≡◌, ℕ, List, sym, subst, Result, Ok, Err}
use Rattle.std.specs.Prelude.{IfOk}
use Rattle.std.specs.declared.alloc.AllocError.{AllocError}
use Rattle.tool_lines.specs.Texts.{line_text}
use Rattle.tool_run.specs.BadInput.{IsBadInput}
use Rattle.tool_verifier.specs.declared.answer.Answer.{Answer}
use Rattle.tool_verifier.specs.declared.status.Status.{Status}
use Rattle.tool_verifier.specs.declared.status.Status.TheVariants.{Done, Refused, Usage, BadInput, ReadFault, WriteFault, OutOfMemory, TooLarge}
use Rattle.stark_chain.specs.Answer.{IsFileAnswer, IsJobAnswer, IsProveAnswer, IsVerifyAnswer}
use Rattle.stark_chain.specs.Laws.Statuses.{file-bad, job-bad}
use Rattle.stark_chain.specs.Texts.{FileData, FileWithin, JobData, JobWithin, file_numbers, job_numbers}

-- the answer to a job is the answer of `prove`
prove-answers : (bytes : List ℕ) (job : JobData) (status : Status) (text : List ℕ) → JobWithin job → bytes ≡ line_text (job_numbers job) → IsJobAnswer job status text → IsProveAnswer bytes status text
prove-answers bytes job Done text fits e a = (job, fits, e, a)
prove-answers bytes job Refused text fits e a = (job, fits, e, a)
prove-answers bytes job Usage text fits e a = (job, fits, e, a)
prove-answers bytes job BadInput text fits e a = absurd (job-bad job text a)
prove-answers bytes job ReadFault text fits e a = (job, fits, e, a)
prove-answers bytes job WriteFault text fits e a = (job, fits, e, a)
prove-answers bytes job OutOfMemory text fits e a = (job, fits, e, a)
prove-answers bytes job TooLarge text fits e a = (job, fits, e, a)

pub prove-answers-ok : (bytes : List ℕ) (job : JobData) (r : Result Answer AllocError) → JobWithin job → bytes ≡ line_text (job_numbers job)
    → IfOk r (λ a. IsJobAnswer job a.status a.text.items) → IfOk r (λ a. IsProveAnswer bytes a.status a.text.items)
prove-answers-ok bytes job (Ok a) fits e h = prove-answers bytes job a.status a.text.items fits e h
prove-answers-ok bytes job (Err x) fits e h = tt

-- the same of `verify`
verify-answers : (bytes : List ℕ) (file : FileData) (status : Status) (text : List ℕ) → FileWithin file → bytes ≡ line_text (file_numbers file) → IsFileAnswer file status text → IsVerifyAnswer bytes status text
verify-answers bytes file Done text fits e a = (file, fits, e, a)
verify-answers bytes file Refused text fits e a = (file, fits, e, a)
verify-answers bytes file Usage text fits e a = (file, fits, e, a)
verify-answers bytes file BadInput text fits e a = absurd (file-bad file text a)
verify-answers bytes file ReadFault text fits e a = (file, fits, e, a)
verify-answers bytes file WriteFault text fits e a = (file, fits, e, a)
verify-answers bytes file OutOfMemory text fits e a = (file, fits, e, a)
verify-answers bytes file TooLarge text fits e a = (file, fits, e, a)

pub verify-answers-ok : (bytes : List ℕ) (file : FileData) (r : Result Answer AllocError) → FileWithin file → bytes ≡ line_text (file_numbers file)
    → IfOk r (λ a. IsFileAnswer file a.status a.text.items) → IfOk r (λ a. IsVerifyAnswer bytes a.status a.text.items)
verify-answers-ok bytes file (Ok a) fits e h = verify-answers bytes file a.status a.text.items fits e h
verify-answers-ok bytes file (Err x) fits e h = tt

-- bytes that are no text
pub bad-job : (bytes : List ℕ) (r : Result Answer AllocError) → IfOk r (λ a. (a.status ≡ BadInput) × IsBadInput JobWithin job_numbers bytes a.text.items) → IfOk r (λ a. IsProveAnswer bytes a.status a.text.items)
bad-job bytes (Ok a) h = subst (λ (s : Status). IsProveAnswer bytes s a.text.items) (sym h.0) h.1
bad-job bytes (Err x) h = tt

pub bad-file : (bytes : List ℕ) (r : Result Answer AllocError) → IfOk r (λ a. (a.status ≡ BadInput) × IsBadInput FileWithin file_numbers bytes a.text.items) → IfOk r (λ a. IsVerifyAnswer bytes a.status a.text.items)
bad-file bytes (Ok a) h = subst (λ (s : Status). IsVerifyAnswer bytes s a.text.items) (sym h.0) h.1
bad-file bytes (Err x) h = tt
