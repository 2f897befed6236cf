use Rattle.law_acceptance.specs.Laws.Airs.{few_rows}
use Rattle.law_acceptance.proofs.meanings.tables_have_few_rows.Goals as goal

pub returns : goal.returns
returns g k c commitment_of s traces degree_bits low B = few_rows c commitment_of s traces degree_bits low B
