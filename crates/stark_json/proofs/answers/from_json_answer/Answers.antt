use Rattle.std.proofs.Common.{ℕ, List, subst, ap, ◌∙◌}
use Rattle.std.specs.Prelude.{IfOk}
use Rattle.stark_json.specs.Answer.{IsFromJsonAnswer}
use Rattle.stark_json.specs.Laws.Answers.{bad-json, from-bad, from-done}
use Rattle.stark_json.proofs.answers.from_json_answer.Goals as goal

pub returns-in-Err : goal.returns-in-Err
returns-in-Err c =
    subst (λ (bytes : List ℕ). IfOk c.bad_json.result (λ a. IsFromJsonAnswer bytes a.status a.text.items)) c.deref.ensures.value
    (from-bad c.deref.result.now c.bad_json.result
    (bad-json c.deref.result.now c.in-Err.error c.bad_json.result c.in-Err.ensures.reading c.bad_json.ensures.json c.bad_json.ensures.tree c.bad_json.ensures.memory))

pub returns-in_ok-write_proof_file-in-Ok : goal.returns-in_ok-write_proof_file-in-Ok
returns-in_ok-write_proof_file-in-Ok c =
    subst (λ (bytes : List ℕ). IsFromJsonAnswer bytes c.done.result.status c.done.result.text.items) c.deref.ensures.value
    (from-done c.deref.result.now c.in-Ok.file c.done.result.status c.done.result.text.items c.in-Ok.ensures.reading c.done.ensures.status
    (ap (λ v. v.items) c.done.ensures.text ∙ c.in_ok-write_proof_file-in-Ok.ensures.text))
