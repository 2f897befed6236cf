use Rattle.verifier_batch.specs.Laws.Singles.{checks_single}
use Rattle.audit_batch.specs.Laws.Audit.{accepted_if_none_named, first_named_is_fault, none_named_if_accepted, same_list}
use Rattle.audit_batch.proofs.meanings.there_is_one_audit.Goals as goal

pub returns-clause-accepted : goal.returns-clause-accepted
returns-clause-accepted g c = λ config s p named. accepted_if_none_named _ _ s p named

pub returns-clause-unnamed : goal.returns-clause-unnamed
returns-clause-unnamed g c = λ config s p es accepted named. none_named_if_accepted _ _ s p es accepted named

pub returns-clause-first : goal.returns-clause-first
returns-clause-first g c = λ config s p e es named. first_named_is_fault _ _ s p e es named

pub returns-clause-one : goal.returns-clause-one
returns-clause-one g c = λ config s p ds es x y. same_list _ _ s p (checks_single _ _ s p (λ state made proof. c.a_verification_is_a_check.ensures _ state made proof)) ds es x y
