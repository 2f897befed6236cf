use Rattle.prover_values.specs.Laws.Given.{evaluated_along, evaluated_tall}
use Rattle.prover_values.proofs.meanings.evaluations_are_read.Goals as goal

pub returns-clause-read : goal.returns-clause-read
returns-clause-read g c f d points point_at p m size counts places I = evaluated_along f.ring points _ point_at _ p size m counts places I

pub returns-clause-tall : goal.returns-clause-tall
returns-clause-tall g c f points point_at p m I some = evaluated_tall f.ring points point_at p m I some
