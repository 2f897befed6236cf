use Rattle.std.proofs.Common.{◌∙◌, ap}
use Rattle.tool_proof_text.specs.ProofText.{ToolProofData}
use Rattle.tool_verifier.proofs.Answering.{accepted, faulted, heights, mismatched}
use Rattle.tool_verifier.proofs.answer.answer_tables.Goals as goal

pub returns-in-Some : goal.returns-in-Some
returns-in-Some c =
    mismatched c.args.version c.args.tables.now c.args.proof.now c.deref.result.now (c.deref.ensures.value ∙ ap (λ (q : ToolProofData). q.degree_bits) c.proof.view_is) c.in-Some.table c.in-Some.ensures _ _ c.refused.ensures.status
    (ap (λ v. v.items) c.refused.ensures.text ∙ c.in_ok-mismatch_line.ensures)

pub accepted_text-requires : goal.accepted_text-requires
accepted_text-requires c =
    c.in-Ok.ensures.matrices (heights c.args.version c.args.tables.now c.args.proof.now c.deref.result.now (c.deref.ensures.value ∙ ap (λ (q : ToolProofData). q.degree_bits) c.proof.view_is) c.in_default.ensures)

pub returns-in_ok-accepted_text-in-Ok : goal.returns-in_ok-accepted_text-in-Ok
returns-in_ok-accepted_text-in-Ok c =
    let same = c.deref.ensures.value ∙ ap (λ (q : ToolProofData). q.degree_bits) c.proof.view_is in
    let stated = heights c.args.version c.args.tables.now c.args.proof.now c.deref.result.now same c.in_default.ensures in
    accepted c.args.version c.args.tables.now c.args.proof.now c.deref.result.now same c.in_default.ensures c.in-Ok.ensures.verdict
    (record { holds = c.in-Ok.ensures.holds; swaps = c.in-Ok.ensures.swaps stated; hashes = c.in-Ok.ensures.hashes stated; few = c.in-Ok.ensures.few; balance = c.in-Ok.ensures.balance }) _ c.in_ok-accepted_text-in-Ok.ensures

pub returns-in_ok-fault_line-in-Err : goal.returns-in_ok-fault_line-in-Err
returns-in_ok-fault_line-in-Err c =
    faulted c.args.version c.args.tables.now c.args.proof.now c.deref.result.now (c.deref.ensures.value ∙ ap (λ (q : ToolProofData). q.degree_bits) c.proof.view_is) c.in_default.ensures c.in-Err.error c.in_ok-fault_line-in-Err.ensures.named c.in-Err.ensures.verdict _ _ c.refused-in-Err.ensures.status
    (ap (λ v. v.items) c.refused-in-Err.ensures.text ∙ c.in_ok-fault_line-in-Err.ensures.line)
