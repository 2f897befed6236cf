use Rattle.std.proofs.Common.{ℕ, List, subst}
use Rattle.std.specs.Prelude.{IfOk}
use Rattle.tool_run.specs.Laws.BadInput.{bad-answers}
use Rattle.stark_chain.specs.Answer.{IsProveAnswer}
use Rattle.stark_chain.specs.Seen.{read_job}
use Rattle.stark_chain.specs.Texts.{JobWithin, job_numbers}
use Rattle.stark_chain.proofs.Runs.{bad-job, prove-answers-ok}
use Rattle.stark_chain.proofs.answers.job_answer.Goals as goal

pub returns-in-Ok : goal.returns-in-Ok
returns-in-Ok c =
    subst (λ (bytes : List ℕ). IfOk c.answer_prove.result (λ a. IsProveAnswer bytes a.status a.text.items)) c.deref.ensures.value
    (prove-answers-ok c.deref.result.now (read_job c.in-Ok.job) c.answer_prove.result c.in-Ok.ensures.0 c.in-Ok.ensures.1 c.answer_prove.ensures)

pub returns-in-Err : goal.returns-in-Err
returns-in-Err c =
    subst (λ (bytes : List ℕ). IfOk c.bad_input.result (λ a. IsProveAnswer bytes a.status a.text.items)) c.deref.ensures.value
    (bad-job c.deref.result.now c.bad_input.result
    (bad-answers read_job JobWithin job_numbers c.deref.result.now c.in-Err.error c.bad_input.result c.in-Err.ensures c.bad_input.ensures.line c.bad_input.ensures.memory))
