use Rattle.air_core.specs.Laws.CellValues.{value_at_point}
use Rattle.air_core.specs.Laws.Degrees.{tree_degree, polynomial_of_degree}
use Rattle.air_core.proofs.trees.a_tree_is_a_polynomial.Goals as goal

pub returns-clause-value : goal.returns-clause-value
returns-clause-value g c embed v x t = value_at_point g.E.RingCore.ring g.met.E.RingCore.ring_laws embed v x t

pub returns-clause-full : goal.returns-clause-full
returns-clause-full g c embed v p q t h = tree_degree g.E.RingCore.ring g.met.E.RingCore.ring_laws embed v p q t h

pub returns-clause-degree : goal.returns-clause-degree
returns-clause-degree g c embed v n periods t H below = polynomial_of_degree g.E.RingCore.ring g.met.E.RingCore.ring_laws n periods v H embed t below
