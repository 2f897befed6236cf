use Rattle.std.proofs.Common.{ℕ, List, subst, ap}
use Rattle.std.specs.Prelude.{IfOk}
use Rattle.tool_proof_files.specs.Files.{FileWithin, file_numbers}
use Rattle.tool_run.specs.Laws.BadInput.{bad-answers}
use Rattle.stark_json.specs.Answer.{IsToJsonAnswer}
use Rattle.stark_json.specs.Laws.Answers.{to-bad, to-done}
use Rattle.stark_json.proofs.answers.to_json_answer.Goals as goal

pub returns-in_ok-to_json-in-Ok : goal.returns-in_ok-to_json-in-Ok
returns-in_ok-to_json-in-Ok c =
    subst (λ (bytes : List ℕ). IsToJsonAnswer bytes c.done.result.status c.done.result.text.items) c.deref.ensures.value
    (to-done c.deref.result.now c.in-Ok.file c.done.result.status c.done.result.text.items c.in_ok-to_json-in-Ok.field-0.items c.in-Ok.ensures.1 c.done.ensures.status
    (ap (λ v. v.items) c.done.ensures.text) c.in_ok-to_json-in-Ok.ensures.text c.in_ok-to_json-in-Ok.ensures.reads_back)

pub returns-in-Err : goal.returns-in-Err
returns-in-Err c =
    subst (λ (bytes : List ℕ). IfOk c.bad_input.result (λ a. IsToJsonAnswer bytes a.status a.text.items)) c.deref.ensures.value
    (to-bad c.deref.result.now c.bad_input.result
    (bad-answers (λ f. f) FileWithin file_numbers c.deref.result.now c.in-Err.error c.bad_input.result c.in-Err.ensures c.bad_input.ensures.line c.bad_input.ensures.memory))
