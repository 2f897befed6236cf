use Rattle.law_transcript.specs.Laws.Sets.{same_alphas_unlucky, same_messages, same_tables, same_zetas_unlucky}
use Rattle.law_transcript.proofs.unlucky_sets_come_from_before.Goals as goal

pub returns-clause-messages : goal.returns-clause-messages
returns-clause-messages g c = λ k n s p q a. same_messages k n s p q a

pub returns-clause-tables : goal.returns-clause-tables
returns-clause-tables g c = λ k n s p q a. same_tables k n s p q a

pub returns-clause-alphas : goal.returns-clause-alphas
returns-clause-alphas g c = λ k n s p q a. same_alphas_unlucky k n s p q a

pub returns-clause-zetas : goal.returns-clause-zetas
returns-clause-zetas g c = λ k n s p q a. same_zetas_unlucky k n s p q a
