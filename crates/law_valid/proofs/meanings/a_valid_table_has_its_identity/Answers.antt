use Rattle.law_valid.specs.Laws.Holding.{valid_identity}
use Rattle.law_valid.proofs.meanings.a_valid_table_has_its_identity.Goals as goal

pub returns : goal.returns
returns g k c eq commitment_of s traces degree_bits inverse i columns challenges terminals alpha x L V lt small tall holds = valid_identity c eq commitment_of s traces degree_bits inverse L V i lt columns challenges terminals alpha x small tall holds
