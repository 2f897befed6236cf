use Rattle.std.proofs.Common.{ℕ, List, subst}
use Rattle.std.specs.Prelude.{IfOk}
use Rattle.tool_proof_files.specs.Files.{FileWithin, file_numbers}
use Rattle.batch_tool.specs.Answer.{IsVerifyAnswer}
use Rattle.tool_run.specs.Laws.BadInput.{bad-answers}
use Rattle.batch_tool.proofs.Runs.{bad-file, verify-answers-ok}
use Rattle.batch_tool.proofs.answers.file_answer.Goals as goal

pub returns-in-Ok : goal.returns-in-Ok
returns-in-Ok c =
    subst (λ (bytes : List ℕ). IfOk c.answer_verify.result (λ a. IsVerifyAnswer bytes a.status a.text.items)) c.deref.ensures.value
    (verify-answers-ok c.deref.result.now c.in-Ok.file c.answer_verify.result c.in-Ok.ensures.0 c.in-Ok.ensures.1 c.answer_verify.ensures)

pub returns-in-Err : goal.returns-in-Err
returns-in-Err c =
    subst (λ (bytes : List ℕ). IfOk c.bad_input.result (λ a. IsVerifyAnswer bytes a.status a.text.items)) c.deref.ensures.value
    (bad-file c.deref.result.now c.bad_input.result
    (bad-answers (λ f. f) FileWithin file_numbers c.deref.result.now c.in-Err.error c.bad_input.result c.in-Err.ensures c.bad_input.ensures.line c.bad_input.ensures.memory))
