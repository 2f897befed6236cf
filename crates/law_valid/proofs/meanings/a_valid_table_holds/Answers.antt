use Rattle.law_valid.specs.Laws.Holding.{valid_holds, valid_holds_alone}
use Rattle.law_valid.proofs.meanings.a_valid_table_holds.Goals as goal

pub returns-clause-alone : goal.returns-clause-alone
returns-clause-alone g k c eq commitment_of s traces degree_bits inverse i L V lt reads none = valid_holds_alone c eq commitment_of s traces degree_bits inverse L V i lt reads none

pub returns-clause-generated : goal.returns-clause-generated
returns-clause-generated g k c eq commitment_of s traces degree_bits inverse i columns challenges terminal L V lt reads tall made = valid_holds c eq commitment_of s traces degree_bits inverse L V i lt reads columns challenges terminal tall made
