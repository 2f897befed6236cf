use Rattle.law_committed.specs.Laws.BaseRows.{zero_below}
use Rattle.law_committed.proofs.rows.rows_hold_below.Goals as goal

pub returns : goal.returns
returns g c f e top inverse t trees i row L holds below is reads = zero_below f e top inverse L t i row is trees holds below reads
