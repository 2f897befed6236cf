use Rattle.air_core.specs.Laws.Degrees.{degree_is_full}
use Rattle.air_core.proofs.trees.a_degree_below_the_stop_is_full.Goals as goal

pub returns : goal.returns
returns g c p q t below = degree_is_full p q t below
