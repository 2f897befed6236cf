use Rattle.p3_field.specs.Laws.Own.{own_combined}
use Rattle.p3_field.proofs.own.AnyExtensionField.from_ext_basis_coefficients.Goals as goal

pub returns-in-len1 : goal.returns-in-len1
returns-in-len1 g c =
    own_combined g.F.RingCore.ring g.met.F.RingCore.ring_laws c.args.c.now c.x-item.result c.in-len1.len_at_least c.in-len1.len_below c.x-item.is
