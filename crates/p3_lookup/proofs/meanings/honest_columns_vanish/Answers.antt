use Rattle.p3_lookup.specs.Honest.{argument}
use Rattle.p3_lookup.specs.Laws.Vanish.{trees_vanish}
use Rattle.p3_lookup.proofs.meanings.honest_columns_vanish.Goals as goal

pub returns : goal.returns
returns g c challenges lookups value =
    trees_vanish g.F.RingCore.ring g.EF.ExtensionField.embed
    (argument g.EF.RingCore.ring g.EF.FieldCore.inv challenges lookups value)
    g.met.EF.RingCore.ring_laws g.met.EF.FieldCore.field_laws g.met.EF.ExtensionField.embed_laws
