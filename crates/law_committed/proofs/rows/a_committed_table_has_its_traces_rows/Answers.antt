use Rattle.law_committed.specs.Laws.Rows.{reads_rows, traces_bounded}
use Rattle.law_committed.proofs.rows.a_committed_table_has_its_traces_rows.Goals as goal

pub returns-clause-row : goal.returns-clause-row
returns-clause-row g c f e top inverse t traces columns i L fits C h = reads_rows f e top inverse L t fits traces columns C i h

pub returns-clause-bounded : goal.returns-clause-bounded
returns-clause-bounded g c f e top inverse t traces columns L C = traces_bounded f e L.below t traces columns C
