use Rattle.p3_challenger.specs.Laws.Scripts.{passes-checked, checked-passes, grinding-state}
use Rattle.p3_challenger.proofs.meanings.grindings_are_checked.Goals as goal

pub returns-clause-answer : goal.returns-clause-answer
returns-clause-answer g c = λ f s bits w. (checked-passes f s bits w, passes-checked f s bits w)

pub returns-clause-state : goal.returns-clause-state
returns-clause-state g c = λ f s bits w. grinding-state f s bits w
