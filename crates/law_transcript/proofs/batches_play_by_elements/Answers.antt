use Rattle.law_transcript.specs.Laws.Elements.{plays_by_elements}
use Rattle.law_transcript.proofs.batches_play_by_elements.Goals as goal

pub returns : goal.returns
returns g c = λ k b coefficients opaque f r d initial s x over. plays_by_elements k b coefficients opaque f r d initial s x over
