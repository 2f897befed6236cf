use Rattle.air_core.specs.Laws.CellValues.{row_is_read, image_at_values}
use Rattle.air_core.proofs.trees.there_is_one_reading.Goals as goal

pub returns-clause-row : goal.returns-clause-row
returns-clause-row g c embed r e = row_is_read g.F.RingCore.ring g.E.RingCore.ring embed e r

pub returns-clause-image : goal.returns-clause-image
returns-clause-image g c f embed v t H =
    image_at_values g.E.RingCore.ring g.met.E.RingCore.ring_laws g.G.RingCore.ring g.met.G.RingCore.ring_laws f H embed v t
