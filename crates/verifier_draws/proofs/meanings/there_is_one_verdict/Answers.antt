use Rattle.verifier_draws.specs.Laws.Singles.{grinding_single}
use Rattle.verifier_draws.proofs.meanings.there_is_one_verdict.Goals as goal

pub returns : goal.returns
returns g c = λ k f e dimension initial version zk lookup_bits ood_bits s p. grinding_single _ k f e dimension initial version zk lookup_bits ood_bits s p
