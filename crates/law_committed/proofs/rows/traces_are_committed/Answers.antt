use Rattle.law_committed.specs.Laws.Traces.{traces_committed}
use Rattle.law_committed.proofs.rows.traces_are_committed.Goals as goal

pub returns : goal.returns
returns g c f e top inverse k traces columns challenges terminals L fits H = traces_committed f e top inverse L k fits traces columns challenges terminals H
