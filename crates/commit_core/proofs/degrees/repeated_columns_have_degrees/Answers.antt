use Rattle.commit_core.specs.Laws.Degrees.{repeated_value, repeated_degree}
use Rattle.commit_core.proofs.degrees.repeated_columns_have_degrees.Goals as goal

pub returns-clause-power : goal.returns-clause-power
returns-clause-power g c d k column f p x fits nz size less G I =
    repeated_value g.F.RingCore.ring g.met.F.RingCore.ring_laws g.F.FieldCore.inv g.met.F.FieldCore.field_laws
    g.F.TwoAdicCore.TWO_ADICITY g.F.TwoAdicCore.root g.met.F.TwoAdicCore.root_laws d k column f p x fits nz size less G I

pub returns-clause-degree : goal.returns-clause-degree
returns-clause-degree g c d column f fits nz period I =
    repeated_degree g.F.RingCore.ring g.met.F.RingCore.ring_laws g.F.FieldCore.inv g.met.F.FieldCore.field_laws
    g.F.TwoAdicCore.TWO_ADICITY g.F.TwoAdicCore.root g.met.F.TwoAdicCore.root_laws d column f fits nz period I
