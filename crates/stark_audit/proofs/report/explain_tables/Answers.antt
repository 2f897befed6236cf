use Rattle.std.proofs.Common.{◌≡◌, ℕ, ◌+◌, List, ◌++◌, flat_map, length, ◌∙◌, ap, subst, arith}
use Rattle.std.specs.Prelude.{min}
use Rattle.p3_field.specs.Checks.{numbers}
use Rattle.plain_pcs.specs.declared.error.PlainError.{PlainError}
use Rattle.batch_statement.specs.declared.error.BatchVerificationError.{BatchVerificationError}
use Rattle.tool_proof_text.specs.ProofText.{ToolProofData}
use Rattle.tool_statement.specs.StatedTables.{HasStatedHeight}
use Rattle.tool_verifier.specs.Refusals.{fault_name, fault_numbers}
use Rattle.audit_batch.specs.Asked.{AreNamed, always}
use Rattle.audit_batch.specs.Report.{failed_line, fails_line, mismatch_line}
use Rattle.stark_audit.specs.Laws.Explain.{explained_says}
use Rattle.stark_audit.specs.Laws.Reports.{explained_by, report_text}
use Rattle.stark_audit.proofs.report.explain_tables.Goals as goal

pub returns-clause-report : goal.returns-clause-report
returns-clause-report c =
    let tables = c.args.tables.now in
    let steps = c.in_ok-steps.field-0.steps.items in
    let heights = c.in_ok-heights.heights.items in
    let faults = c.in_ok-steps.field-0.faults.items in
    let count = c.in-Some.count in
    let bits : c.deref.result.now ≡ c.args.proof.now.degree_bits = c.deref.ensures.value ∙ ap (λ (q : ToolProofData). q.degree_bits) c.proof.view_is in
    let named = subst (λ (d : List ℕ). AreNamed (always (numbers (min (length tables) (length d)) (HasStatedHeight tables d))) heights) bits c.in_ok-heights.ensures in
    let counts : count ≡ length heights + length faults = grind (arith, c.in-Some.ensures, c.len.ensures, c.len-2.ensures) in
    let lines : c.push_count.new.out.items ≡ report_text steps heights faults count =
    let h = c.deref-2.ensures.value in
    let g = c.deref-3.ensures.value in
    c.in_ok-push_count.ensures
    ∙ ap (λ (l : List ℕ). l ++ failed_line count)
    (c.in_ok-push_faults.ensures ∙ ap (λ (l : List ℕ). l ++ flat_map (λ (e : BatchVerificationError PlainError). fails_line (fault_name e) (fault_numbers e)) c.deref-3.result.now) c.in_ok-push_heights.ensures)
    ∙ (λ i. steps ++ flat_map mismatch_line (h i) ++ flat_map (λ (e : BatchVerificationError PlainError). fails_line (fault_name e) (fault_numbers e)) (g i) ++ failed_line count) in
    explained_by c.args.version tables c.args.proof.now steps heights faults c.push_count.new.out.items count c.in_ok-steps.ensures.steps named c.in_ok-steps.ensures.faults counts lines
    c.ended.result c.ended.ensures.none c.ended.ensures.some

pub returns-clause-accepted : goal.returns-clause-accepted
returns-clause-accepted c =
    (explained_says c.args.version c.args.tables.now c.args.proof.now c.ended.result c.push_count.new.out.items (returns-clause-report c)).0

pub returns-clause-first : goal.returns-clause-first
returns-clause-first c =
    (explained_says c.args.version c.args.tables.now c.args.proof.now c.ended.result c.push_count.new.out.items (returns-clause-report c)).1
