use Rattle.law_transcript.specs.Laws.Streams.{same_parts}
use Rattle.law_transcript.proofs.streams_tell_their_parts.Goals as goal

pub returns : goal.returns
returns g c = record { told = λ r coefficients opaque most d s x y tells fits fits_too few few_too alike. same_parts r coefficients opaque most tells d s x y fits fits_too alike few few_too }
