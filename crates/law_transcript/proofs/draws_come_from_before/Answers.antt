use Rattle.law_transcript.specs.Laws.Draws.{same_pair, same_alpha, same_draws}
use Rattle.law_transcript.proofs.draws_come_from_before.Goals as goal

pub returns-clause-pair : goal.returns-clause-pair
returns-clause-pair g c = λ k s p q a. same_pair k s p q a

pub returns-clause-alpha : goal.returns-clause-alpha
returns-clause-alpha g c = λ k s p q a. same_alpha k s p q a

pub returns-clause-zeta : goal.returns-clause-zeta
returns-clause-zeta g c = λ k s p q a. same_draws k s p q a
