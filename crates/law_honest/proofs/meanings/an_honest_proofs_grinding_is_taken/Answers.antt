use Rattle.law_honest.specs.Laws.Ground.{ground_accepted}
use Rattle.law_honest.proofs.meanings.an_honest_proofs_grinding_is_taken.Goals as goal

pub returns : goal.returns
returns g k c p s traces degree_bits w z opening canonical lookup ood = ground_accepted c p s traces degree_bits canonical _ w z opening lookup ood
