use Rattle.std.proofs.Common.{◌^◌, ◌∙◌, ap}
use Rattle.p3_field.specs.Ring.{pow}
use Rattle.p3_dft.specs.Laws.Inverse.{root_turns}
use Rattle.p3_dft.proofs.rows.coset_values.Goals as goal

pub rows_on_powers-requires-clause-turns : goal.rows_on_powers-requires-clause-turns
rows_on_powers-requires-clause-turns g c = λ j e.
    let r = g.F.RingCore.ring in
    ap (λ h. pow r h (2 ^ j)) c.two_adic_generator.ensures
    ∙ root_turns r g.met.F.RingCore.ring_laws g.F.FieldCore.inv g.met.F.FieldCore.field_laws g.F.TwoAdicCore.TWO_ADICITY g.F.TwoAdicCore.root g.met.F.TwoAdicCore.root_laws
    c.args.log_size c.requires.subgroup j e
