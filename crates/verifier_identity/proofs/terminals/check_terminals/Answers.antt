use Rattle.std.proofs.Common.{◌≡◌, sym, ap, subst, inr}
use Rattle.p3_field.specs.Checks.{NoneFails, FirstFails}
use Rattle.p3_lookup.specs.Term.{sum_of}
use Rattle.batch_statement.specs.declared.error.BatchVerificationError.TheVariants.{Lookup}
use Rattle.verifier_identity.proofs.TerminalValues.{present_are}
use Rattle.verifier_identity.proofs.terminals.check_terminals.Goals as goal

pub returns-in-Ok : goal.returns-in-Ok
unfolding NoneFails
returns-in-Ok g c =
    let r = g.E.RingCore.ring in
    (subst (λ xs. sum_of r xs ≡ r.zero) (present_are c.terminals.result.now c.args.proof.now.lookup_terminals c.terminals.ensures) c.in-Ok.ensures, tt)

pub returns-in-Err : goal.returns-in-Err
unfolding FirstFails
returns-in-Err g c =
    let r = g.E.RingCore.ring in
    inr ((λ h. c.in-Err.ensures.1 (subst (λ xs. sum_of r xs ≡ r.zero) (sym (present_are c.terminals.result.now c.args.proof.now.lookup_terminals c.terminals.ensures)) h)), ap Lookup c.in-Err.ensures.0)
