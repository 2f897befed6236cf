use Rattle.p3_lookup.specs.Honest.{argument}
use Rattle.stark_balance.specs.Laws.Vanishing.{vanishing_sum}
use Rattle.stark_balance.proofs.meanings.vanishing_rows_sum.Goals as goal

pub returns : goal.returns
returns g c challenges lookups value =
    vanishing_sum g.F.RingCore.ring g.EF.ExtensionField.embed
    (argument g.EF.RingCore.ring g.EF.FieldCore.inv challenges lookups value)
    g.met.EF.RingCore.ring_laws g.met.EF.FieldCore.field_laws g.met.EF.ExtensionField.embed_laws
