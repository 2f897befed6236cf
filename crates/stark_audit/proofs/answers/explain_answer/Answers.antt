use Rattle.std.proofs.Common.{ℕ, List, subst}
use Rattle.std.specs.Prelude.{IfOk}
use Rattle.tool_proof_files.specs.Files.{FileWithin, file_numbers}
use Rattle.tool_run.specs.Laws.BadInput.{bad-answers}
use Rattle.stark_audit.specs.Answer.{IsExplainAnswer}
use Rattle.stark_audit.specs.Laws.Answers.{explain_bad, explained_file}
use Rattle.stark_audit.proofs.answers.explain_answer.Goals as goal

pub returns-in-Ok : goal.returns-in-Ok
returns-in-Ok c =
    subst (λ (bytes : List ℕ). IfOk c.explain.result (λ a. IsExplainAnswer bytes a.status a.text.items)) c.deref.ensures.value
    (explained_file c.deref.result.now c.in-Ok.file c.explain.result c.in-Ok.ensures.0 c.in-Ok.ensures.1 c.explain.ensures.report)

pub returns-in-Err : goal.returns-in-Err
returns-in-Err c =
    subst (λ (bytes : List ℕ). IfOk c.bad_input.result (λ a. IsExplainAnswer bytes a.status a.text.items)) c.deref.ensures.value
    (explain_bad c.deref.result.now c.bad_input.result
    (bad-answers (λ f. f) FileWithin file_numbers c.deref.result.now c.in-Err.error c.bad_input.result c.in-Err.ensures c.bad_input.ensures.line c.bad_input.ensures.memory))
