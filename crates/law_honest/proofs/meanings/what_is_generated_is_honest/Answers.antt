use Rattle.law_honest.specs.Laws.Answered.{columns_are, fault_is, terminal_is}
use Rattle.law_honest.proofs.meanings.what_is_generated_is_honest.Goals as goal

pub returns-clause-columns : goal.returns-clause-columns
returns-clause-columns g k c p t challenges m terminal some tall fills made = columns_are c p t challenges some tall m terminal fills made

pub returns-clause-terminal : goal.returns-clause-terminal
returns-clause-terminal g k c p t challenges m terminal some tall fills made = terminal_is c p t challenges some tall m terminal fills made

pub returns-clause-fault : goal.returns-clause-fault
returns-clause-fault g k c p s traces degree_bits w i row lookup tuple ground within before tall zero = fault_is c p s traces degree_bits w i row lookup tuple ground within before tall zero
