use Rattle.law_honest.specs.Laws.Events.{outcome}
use Rattle.law_honest.proofs.meanings.an_event_comes_or_a_proof_is_built.Goals as goal

pub returns : goal.returns
returns g k c p s traces degree_bits own decided heights = outcome _ c p s traces degree_bits own decided heights
