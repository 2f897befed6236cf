use Rattle.law_committed.specs.Laws.Quotient.{fold_divided, value_there}
use Rattle.law_committed.proofs.quotient.a_table_that_holds_has_a_quotient.Goals as goal

pub returns-clause-divides : goal.returns-clause-divides
returns-clause-divides g c f e top inverse t trees alpha x L fits holds = fold_divided f e top inverse L t trees alpha fits holds x

pub returns-clause-values : goal.returns-clause-values
returns-clause-values g c f e top inverse t trees alpha shift log_chunks m L Q holds h = value_there f e top inverse L t trees alpha shift log_chunks Q holds m h
