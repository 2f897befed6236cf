use Rattle.law_committed.specs.Laws.Lookups.{lookups_hold, table_holds}
use Rattle.law_committed.proofs.lookups.generated_columns_hold.Goals as goal

pub returns-clause-lookups : goal.returns-clause-lookups
returns-clause-lookups g c f e top inverse t traces columns lookups terminal L fits C last made fit = lookups_hold f e top inverse L t fits traces columns C lookups terminal last made fit

pub returns-clause-table : goal.returns-clause-table
returns-clause-table g c f e top inverse t traces columns lookups terminal trees L fits C last made fit own = table_holds f e top inverse L t fits traces columns C lookups terminal last made trees own fit
