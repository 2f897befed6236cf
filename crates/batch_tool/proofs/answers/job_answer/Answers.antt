use Rattle.std.proofs.Common.{ℕ, List, Global, Vec, subst}
use Rattle.std.specs.Prelude.{IfOk}
use Rattle.tool_jobs.specs.Jobs.{JobWithin, job_numbers, read_tables}
use Rattle.tool_jobs.specs.declared.table.JobTable.{JobTable}
use Rattle.tool_prover.specs.JobAnswer.{IsJobAnswer}
use Rattle.batch_tool.specs.Answer.{IsProveAnswer}
use Rattle.tool_run.specs.Laws.BadInput.{bad-answers}
use Rattle.batch_tool.proofs.Runs.{bad-job, prove-answers-ok}
use Rattle.batch_tool.proofs.answers.job_answer.Goals as goal

pub returns-in-Ok : goal.returns-in-Ok
returns-in-Ok c =
    let P : List JobTable → Type 0 = λ l. IfOk c.answer_prove.result (λ a. IsJobAnswer c.args.version (read_tables l) a.status a.text.items) in
    subst (λ (bytes : List ℕ). IfOk c.answer_prove.result (λ a. IsProveAnswer c.args.version bytes a.status a.text.items)) c.deref.ensures.value
    (prove-answers-ok c.args.version c.deref.result.now (read_tables c.in-Ok.job.items) c.answer_prove.result c.in-Ok.ensures.0 c.in-Ok.ensures.1 (subst P c.deref-in-Ok.ensures.value c.answer_prove.ensures))

pub returns-in-Err : goal.returns-in-Err
returns-in-Err c =
    subst (λ (bytes : List ℕ). IfOk c.bad_input.result (λ a. IsProveAnswer c.args.version bytes a.status a.text.items)) c.deref.ensures.value
    (bad-job c.args.version c.deref.result.now c.bad_input.result
    (bad-answers (λ (v : Vec JobTable Global). read_tables v.items) JobWithin job_numbers c.deref.result.now c.in-Err.error c.bad_input.result c.in-Err.ensures c.bad_input.ensures.line c.bad_input.ensures.memory))
