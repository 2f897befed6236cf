use Rattle.batch_constraints.specs.Laws.Own.{own_lookups}
use Rattle.batch_constraints.proofs.meanings.own_lookups_fit.Goals as goal

pub returns : goal.returns
returns g c d is h = own_lookups d is h
