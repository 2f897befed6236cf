use Rattle.std.proofs.Common.{length, refl}
use Rattle.batch_constraints.specs.Laws.Reads.{table_fits}
use Rattle.batch_constraints.specs.Laws.TreesRead.{lookup_trees_read}
use Rattle.batch_constraints.proofs.meanings.constraints_read_what_is_declared.Goals as goal

pub returns-clause-layout : goal.returns-clause-layout
returns-clause-layout g c d ls h = table_fits d (length ls) ls refl h

pub returns-clause-reads : goal.returns-clause-reads
returns-clause-reads g c s ls h = lookup_trees_read g.F.RingCore.ring s ls h
