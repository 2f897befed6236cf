use Rattle.std.proofs.Common.{ℕ, List, subst}
use Rattle.std.specs.Prelude.{IfOk}
use Rattle.stark_json.specs.Answer.{IsVerifyJsonAnswer}
use Rattle.stark_json.specs.Laws.Answers.{bad-json, verified, verify-bad}
use Rattle.stark_json.proofs.answers.verify_json_answer.Goals as goal

pub returns-in-Ok : goal.returns-in-Ok
returns-in-Ok c =
    subst (λ (bytes : List ℕ). IfOk c.answer_verify.result (λ a. IsVerifyJsonAnswer bytes a.status a.text.items)) c.deref.ensures.value
    (verified c.deref.result.now c.in-Ok.file c.answer_verify.result c.in-Ok.ensures.reading c.answer_verify.ensures)

pub returns-in-Err : goal.returns-in-Err
returns-in-Err c =
    subst (λ (bytes : List ℕ). IfOk c.bad_json.result (λ a. IsVerifyJsonAnswer bytes a.status a.text.items)) c.deref.ensures.value
    (verify-bad c.deref.result.now c.bad_json.result
    (bad-json c.deref.result.now c.in-Err.error c.bad_json.result c.in-Err.ensures.reading c.bad_json.ensures.json c.bad_json.ensures.tree c.bad_json.ensures.memory))
