use Rattle.p3_lookup.specs.Laws.Buses.{shares_by_name}
use Rattle.p3_lookup.proofs.meanings.buses_shared_by_name.Goals as goal

pub returns : goal.returns
returns c buses = shares_by_name buses
