use Rattle.batch_constraints.specs.Laws.Logarithms.{log_ceil_enough, log_ceil_least}
use Rattle.batch_constraints.proofs.meanings.a_logarithm_is_the_least.Goals as goal

pub returns-clause-enough : goal.returns-clause-enough
returns-clause-enough c n = log_ceil_enough n

pub returns-clause-least : goal.returns-clause-least
returns-clause-least c n j h = log_ceil_least n j h
