use Rattle.std.proofs.Common.{◌≡◌, ◌^◌, ◌<◌, ◌∙◌, sym, ap, arith}
use Rattle.p3_matrix.specs.Matrix.{column}
use Rattle.p3_matrix.specs.Laws.Cells.{length-column}
use Rattle.p3_matrix.specs.Laws.Powers.{size_of_shift}
use Rattle.p3_field.specs.Ring.{pow, of_nat}
use Rattle.p3_field.specs.Domain.{coset_point}
use Rattle.p3_dft.specs.Transform.{values_at, weighted}
use Rattle.p3_field.specs.Laws.Inverses.{root_inverts, size_inverts}
use Rattle.p3_dft.specs.Laws.Inverse.{inverse_root_turns, interpolates}
use Rattle.p3_dft.proofs.rows.coset_interpolants.Goals as goal

pub inverse-generator-requires : goal.inverse-generator-requires
inverse-generator-requires g c = λ e.
    root_inverts g.F.RingCore.ring g.met.F.RingCore.ring_laws g.F.FieldCore.inv g.met.F.FieldCore.field_laws g.F.TwoAdicCore.TWO_ADICITY g.F.TwoAdicCore.root g.met.F.TwoAdicCore.root_laws
    c.args.log_size c.requires.subgroup (sym c.two_adic_generator.ensures ∙ e)

pub rows_on_powers-requires-clause-turns : goal.rows_on_powers-requires-clause-turns
rows_on_powers-requires-clause-turns g c = λ j e.
    let r = g.F.RingCore.ring in
    ap (λ h. pow r h (2 ^ j)) (c.inverse-generator.ensures ∙ ap g.F.FieldCore.inv c.two_adic_generator.ensures)
    ∙ inverse_root_turns r g.met.F.RingCore.ring_laws g.F.FieldCore.inv g.met.F.FieldCore.field_laws g.F.TwoAdicCore.TWO_ADICITY g.F.TwoAdicCore.root g.met.F.TwoAdicCore.root_laws
    c.args.log_size c.requires.subgroup j e

pub inverse-weight-requires : goal.inverse-weight-requires
inverse-weight-requires g c = λ e.
    size_inverts g.F.RingCore.ring g.met.F.RingCore.ring_laws g.F.FieldCore.inv g.met.F.FieldCore.field_laws g.F.TwoAdicCore.TWO_ADICITY g.F.TwoAdicCore.root g.met.F.TwoAdicCore.root_laws
    c.args.log_size c.requires.subgroup (ap (of_nat g.F.RingCore.ring) (sym (size_of_shift c.args.log_size _ c.requires.subgroup g.met.F.TwoAdicCore.below_64)) ∙ (sym c.from_u64.ensures ∙ e))

pub returns-clause-columns : goal.returns-clause-columns
returns-clause-columns g c = λ j b.
    let r = g.F.RingCore.ring in
    let inv = g.F.FieldCore.inv in
    let W = g.met.F.FieldCore.field_laws in
    let k = c.args.log_size in
    let m = c.args.m.now in
    let v = column r.zero m j in
    let u = column r.zero c.in_ok-values.values j in
    let h = g.F.TwoAdicCore.root k in
    let across : j < c.in_ok-values.values.width = omega (arith, c.in_ok-values.ensures.width) in
    let values : u ≡ values_at r (coset_point r c.ONE.result c.inverse-generator.result) (2 ^ k) v = c.in_ok-values.ensures.columns j b in
    let list : u ≡ values_at r (coset_point r r.one (inv h)) (2 ^ k) v = cc (values, c.ONE.ensures, g.met.F.RingCore.one_is, c.inverse-generator.ensures, c.two_adic_generator.ensures) in
    let scaled : column r.zero c.weighed_rows.result j ≡ weighted r c.inverse-weight.result c.inverse.result u = c.weighed_rows.ensures.columns j across in
    interpolates r g.met.F.RingCore.ring_laws inv W g.F.TwoAdicCore.TWO_ADICITY g.F.TwoAdicCore.root g.met.F.TwoAdicCore.root_laws
    k c.args.shift v (column r.zero c.weighed_rows.result j) c.requires.subgroup c.requires.shift (length-column r.zero m j ∙ c.requires.size)
    (scaled ∙ cc (list, c.inverse-weight.ensures, c.from_u64.ensures, c.inverse.ensures, size_of_shift k _ c.requires.subgroup g.met.F.TwoAdicCore.below_64))
