use Rattle.law_committed.specs.Laws.BaseRows.{table_reads, traces_read}
use Rattle.law_committed.proofs.rows.rows_are_read.Goals as goal

pub returns-clause-committed : goal.returns-clause-committed
returns-clause-committed g c f e top inverse t L fits = table_reads f e top inverse L t fits

pub returns-clause-traces : goal.returns-clause-traces
returns-clause-traces g c r t differs = traces_read r t differs
