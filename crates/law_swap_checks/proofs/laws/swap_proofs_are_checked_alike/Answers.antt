use Rattle.law_swap_checks.proofs.Zeros.{shape_met}
use Rattle.law_swap_checks.proofs.Whole.{all_alike}
use Rattle.law_swap_checks.proofs.laws.swap_proofs_are_checked_alike.Goals as goal

pub returns-clause-accepted : goal.returns-clause-accepted
returns-clause-accepted c version k a b x p small shape = (all_alike version k a b x p small shape).none

pub returns-clause-refused : goal.returns-clause-refused
returns-clause-refused c version k a b x p e small shape = (all_alike version k a b x p small shape).first e

pub returns-clause-met : goal.returns-clause-met
returns-clause-met c k = shape_met k
