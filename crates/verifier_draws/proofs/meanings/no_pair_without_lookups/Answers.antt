use Rattle.verifier_draws.specs.Laws.Singles.{no_pair}
use Rattle.verifier_draws.proofs.meanings.no_pair_without_lookups.Goals as goal

pub returns : goal.returns
returns g c = λ lookups d h. no_pair lookups d h
