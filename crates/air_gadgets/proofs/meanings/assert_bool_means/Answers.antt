use Rattle.p3_field.specs.Laws.Roots.{field_no_zero_divisors}
use Rattle.p3_field.specs.Laws.TwoAdic.{decide_by}
use Rattle.air_gadgets.specs.Laws.Bits.{bool_means}
use Rattle.air_gadgets.proofs.meanings.assert_bool_means.Goals as goal

pub returns : goal.returns
returns g c at at_ext =
    let L = g.met.F.RingCore.ring_laws in
    bool_means g.F.RingCore.ring L (field_no_zero_divisors g.F.RingCore.ring L g.F.FieldCore.inv g.met.F.FieldCore.field_laws)
    (decide_by _ g.met.F.FieldCore.eq_same g.met.F.FieldCore.same_eq) at at_ext
