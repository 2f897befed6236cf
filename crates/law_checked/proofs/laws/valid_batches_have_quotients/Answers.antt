use Rattle.law_acceptance.specs.Laws.Quotients.{quotient_of_the_fold}
use Rattle.law_checked.proofs.laws.valid_batches_have_quotients.Goals as goal

pub returns : goal.returns
returns g k c p eq s traces degree_bits w i folding x L V lt reads fractions small = quotient_of_the_fold c p eq s traces degree_bits L V w fractions i lt reads folding x small
