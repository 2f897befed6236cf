use Rattle.law_honest.specs.Laws.Generated.{traced_heights, valid_holds, valid_identity}
use Rattle.law_honest.proofs.meanings.honest_tables_hold.Goals as goal

pub returns-clause-holds : goal.returns-clause-holds
returns-clause-holds g k c p eq s traces degree_bits w i L V lt reads fractions = valid_holds c p eq s traces degree_bits L V w fractions i lt reads

pub returns-clause-identity : goal.returns-clause-identity
returns-clause-identity g k c p eq s traces degree_bits w i folding x L V lt reads fractions small = valid_identity c p eq s traces degree_bits L V w fractions i lt reads folding x small

pub returns-clause-heights : goal.returns-clause-heights
returns-clause-heights g k c p s traces degree_bits B = traced_heights c p s traces degree_bits B
