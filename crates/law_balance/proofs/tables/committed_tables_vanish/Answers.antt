use Rattle.law_balance.specs.Laws.CommittedRows.{table_vanishes}
use Rattle.law_balance.proofs.tables.committed_tables_vanish.Goals as goal

pub returns : goal.returns
returns g c f e top inverse t lookups bus base beta shape trees terminal L fits bases reads holds last counted = table_vanishes f e top inverse L t fits lookups bus base beta bases shape reads trees holds terminal last counted
