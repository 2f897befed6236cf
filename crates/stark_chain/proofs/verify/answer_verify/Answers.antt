use Rattle.std.proofs.Common.{◌≡◌, ◌∙◌, ap, refl, false, true}
use Rattle.stark_chain.specs.Seen.{read_file}
use Rattle.stark_chain.proofs.Answering.{accepted, faulted, mismatched}
use Rattle.stark_chain.proofs.verify.answer_verify.Goals as goal

pub verify_chain-requires-clause-rows : goal.verify_chain-requires-clause-rows
verify_chain-requires-clause-rows c = c.requires.rows

pub verify_chain-requires-clause-height : goal.verify_chain-requires-clause-height
verify_chain-requires-clause-height c = c.if-not-has_stated_height.ensures.0 refl

pub returns-then-not-has_stated_height : goal.returns-then-not-has_stated_height
returns-then-not-has_stated_height c =
    mismatched (read_file c.args.file.now) (λ h. let g : false ≡ true = c.if-not-has_stated_height.ensures.1 h in cc) _ _ c.refused.ensures.status (ap (λ v. v.items) c.refused.ensures.text ∙ c.in_ok-mismatch_line.ensures)

pub returns-in_ok-from_slice-in-Ok : goal.returns-in_ok-from_slice-in-Ok
returns-in_ok-from_slice-in-Ok c =
    accepted (read_file c.args.file.now) (c.if-not-has_stated_height.ensures.0 refl) c.in-Ok.ensures.verdict c.in-Ok.ensures.chain _ c.in_ok-from_slice-in-Ok.ensures.items

pub returns-in_ok-fault_line-in-Err : goal.returns-in_ok-fault_line-in-Err
returns-in_ok-fault_line-in-Err c =
    faulted (read_file c.args.file.now) (c.if-not-has_stated_height.ensures.0 refl) c.in-Err.error c.in_ok-fault_line-in-Err.ensures.named c.in-Err.ensures.verdict _ _ c.refused-in-Err.ensures.status
    (ap (λ v. v.items) c.refused-in-Err.ensures.text ∙ c.in_ok-fault_line-in-Err.ensures.line)
