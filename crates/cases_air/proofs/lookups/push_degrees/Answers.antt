use Rattle.cases_air.proofs.Taken.{taken_counted}
use Rattle.cases_air.proofs.lookups.push_degrees.Goals as goal

pub constraint_degree_with_transition-degree-requires : goal.constraint_degree_with_transition-degree-requires
constraint_degree_with_transition-degree-requires c = taken_counted _ c.in_ok-lookup.ensures
