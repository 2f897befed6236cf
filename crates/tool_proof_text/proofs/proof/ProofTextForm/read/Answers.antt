use Rattle.tool_lines.specs.Laws.Grammars.{element-grammar}
use Rattle.tool_lines.specs.Laws.Stops.{handed-on, same-stops, same-reads, then-first, then-second, then-reads, own-items, own-option}
use Rattle.tool_proof_text.specs.ProofText.{proof_numbers, ProofWithin}
use Rattle.tool_proof_text.specs.Laws.Commitments.{commitments-grammar}
use Rattle.tool_proof_text.specs.Laws.Proofs.{instances-grammar, terminals-grammar, degree_bits-grammar, some_element-grammar, witness_parts-grammar, degree_parts-grammar, terminal_parts-grammar, instance_parts-grammar, same-proof}
use Rattle.tool_proof_text.proofs.proof.ProofTextForm.read.Goals as goal

pub returns-in_err-commitments : goal.returns-in_err-commitments
returns-in_err-commitments c = handed-on (λ v. v) ProofWithin proof_numbers _ _ _ c.in_err-commitments.field-0.0 c.from_residual.ensures.1
    (λ m. same-stops same-proof
    (then-first instance_parts-grammar (c.in_err-commitments.ensures m)))

pub returns-in_err-instances : goal.returns-in_err-instances
returns-in_err-instances c = handed-on (λ v. v) ProofWithin proof_numbers _ _ _ c.in_err-instances.field-0.0 c.from_residual-in_err-instances.ensures.1
    (λ m. same-stops same-proof
    (then-second commitments-grammar c.in_ok-commitments.ensures
    (then-first terminal_parts-grammar (c.in_err-instances.ensures m))))

pub returns-in_err-lookup_terminals : goal.returns-in_err-lookup_terminals
returns-in_err-lookup_terminals c = handed-on (λ v. v) ProofWithin proof_numbers _ _ _ c.in_err-lookup_terminals.field-0.0 c.from_residual-in_err-lookup_terminals.ensures.1
    (λ m. same-stops same-proof
    (then-second commitments-grammar c.in_ok-commitments.ensures
    (then-second instances-grammar (own-items c.in_ok-instances.instances.items c.in_ok-instances.ensures)
    (then-first degree_parts-grammar (c.in_err-lookup_terminals.ensures m)))))

pub returns-in_err-degree_bits : goal.returns-in_err-degree_bits
returns-in_err-degree_bits c = handed-on (λ v. v) ProofWithin proof_numbers _ _ _ c.in_err-degree_bits.field-0.0 c.from_residual-in_err-degree_bits.ensures.1
    (λ m. same-stops same-proof
    (then-second commitments-grammar c.in_ok-commitments.ensures
    (then-second instances-grammar (own-items c.in_ok-instances.instances.items c.in_ok-instances.ensures)
    (then-second terminals-grammar c.in_ok-lookup_terminals.ensures
    (then-first witness_parts-grammar (c.in_err-degree_bits.ensures m))))))

pub returns-in_err-lookup_pow_witness : goal.returns-in_err-lookup_pow_witness
returns-in_err-lookup_pow_witness c = handed-on (λ v. v) ProofWithin proof_numbers _ _ _ c.in_err-lookup_pow_witness.field-0.0 c.from_residual-in_err-lookup_pow_witness.ensures.1
    (λ m. same-stops same-proof
    (then-second commitments-grammar c.in_ok-commitments.ensures
    (then-second instances-grammar (own-items c.in_ok-instances.instances.items c.in_ok-instances.ensures)
    (then-second terminals-grammar c.in_ok-lookup_terminals.ensures
    (then-second degree_bits-grammar (own-items c.in_ok-degree_bits.degree_bits.items c.in_ok-degree_bits.ensures)
    (then-first element-grammar (c.in_err-lookup_pow_witness.ensures m)))))))

pub returns-in_err-ood_pow_witness : goal.returns-in_err-ood_pow_witness
returns-in_err-ood_pow_witness c = handed-on (λ v. v) ProofWithin proof_numbers _ _ _ c.in_err-ood_pow_witness.field-0.0 c.from_residual-in_err-ood_pow_witness.ensures.1
    (λ m. same-stops same-proof
    (then-second commitments-grammar c.in_ok-commitments.ensures
    (then-second instances-grammar (own-items c.in_ok-instances.instances.items c.in_ok-instances.ensures)
    (then-second terminals-grammar c.in_ok-lookup_terminals.ensures
    (then-second degree_bits-grammar (own-items c.in_ok-degree_bits.degree_bits.items c.in_ok-degree_bits.ensures)
    (then-second some_element-grammar (own-option c.in_ok-lookup_pow_witness.lookup_pow_witness c.in_ok-lookup_pow_witness.ensures)
    (c.in_err-ood_pow_witness.ensures.value m)))))))

pub returns : goal.returns
unfolding same-proof
returns c = same-reads same-proof
    (then-reads c.in_ok-commitments.ensures
    (then-reads (own-items c.in_ok-instances.instances.items c.in_ok-instances.ensures)
    (then-reads c.in_ok-lookup_terminals.ensures
    (then-reads (own-items c.in_ok-degree_bits.degree_bits.items c.in_ok-degree_bits.ensures)
    (then-reads (own-option c.in_ok-lookup_pow_witness.lookup_pow_witness c.in_ok-lookup_pow_witness.ensures) c.in_ok-ood_pow_witness.ensures.value)))))
