use Rattle.air_core.specs.Laws.Maps.{one_value, one_declared_value, value_along, value_at_images}
use Rattle.air_core.proofs.trees.a_tree_has_one_value.Goals as goal

pub returns-clause-same : goal.returns-clause-same
returns-clause-same g c r embed at second at_ext second_ext t h = one_value r embed at second at_ext second_ext t h

pub returns-clause-declared : goal.returns-clause-declared
returns-clause-declared g c r embed at second at_ext second_ext s t same same_ext declared =
    one_declared_value r embed at second at_ext second_ext s t same same_ext declared

pub returns-clause-along : goal.returns-clause-along
returns-clause-along g c first second f t K h = value_along first second f K t h

pub returns-clause-image : goal.returns-clause-image
returns-clause-image g c f embed at at_ext t H =
    value_at_images g.E.RingCore.ring g.met.E.RingCore.ring_laws g.G.RingCore.ring g.met.G.RingCore.ring_laws f H embed at at_ext t
