use Rattle.verifier_batch.specs.Laws.Named.{never_memory}
use Rattle.verifier_batch.specs.Laws.Singles.{checks_single, one_answer, some_answer}
use Rattle.verifier_batch.proofs.meanings.there_is_one_verdict.Goals as goal

pub returns-clause-single : goal.returns-clause-single
returns-clause-single g c = λ config s p. checks_single _ _ s p (λ state made proof. c.a_verification_is_a_check.ensures _ state made proof)

pub returns-clause-one : goal.returns-clause-one
returns-clause-one g c = λ config s p d e x y. one_answer _ _ s p (λ state made proof. c.a_verification_is_a_check.ensures _ state made proof) d e x y

pub returns-clause-some : goal.returns-clause-some
returns-clause-some g c = λ config s p none. some_answer _ _ s p (λ state made proof. c.a_verification_is_a_check.ensures _ state made proof) none

pub returns-clause-named : goal.returns-clause-named
returns-clause-named g c = λ config s p. never_memory _ _ s p
