use Rattle.p3_lookup.specs.Bus.{batch_buses}
use Rattle.p3_lookup.specs.Laws.Buses.{shares_by_name}
use Rattle.batch_transcript.specs.Laws.Buses.{lays-out-bases}
use Rattle.batch_transcript.proofs.meanings.lookups_are_laid_out.Goals as goal

pub returns-clause-bases : goal.returns-clause-bases
returns-clause-bases g c = λ tables. lays-out-bases g.EF.RingCore.ring tables

pub returns-clause-buses : goal.returns-clause-buses
returns-clause-buses g c = λ tables. shares_by_name (batch_buses tables)
