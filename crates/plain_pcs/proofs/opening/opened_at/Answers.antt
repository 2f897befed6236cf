use Rattle.std.proofs.Common.{arith}
use Rattle.plain_pcs.specs.Laws.OpenedCommitments.{power_within}
use Rattle.plain_pcs.proofs.Openings.{opened_values}
use Rattle.plain_pcs.proofs.opening.opened_at.Goals as goal

pub interpolate_coset-requires-clause-subgroup : goal.interpolate_coset-requires-clause-subgroup
interpolate_coset-requires-clause-subgroup g c =
    let within = power_within c.args.domain.now.log_size g.F.TwoAdicCore.TWO_ADICITY c.valid.ensures.1 in
    omega (arith, c.requires, within)

pub returns : goal.returns
returns g c = λ k V.
    opened_values g.F.RingCore.ring g.met.F.RingCore.ring_laws g.F.FieldCore.inv g.met.F.FieldCore.field_laws g.F.TwoAdicCore.TWO_ADICITY g.F.TwoAdicCore.root g.met.F.TwoAdicCore.root_laws
    g.E.RingCore.ring g.met.E.RingCore.ring_laws g.E.ExtensionField.embed g.met.E.ExtensionField.embed_laws
    c.args.domain.now c.args.matrix.now k c.args.point c.in_ok-values.values.items c.shift.result c.valid.ensures.0 c.valid.ensures.1 c.requires V c.in_ok-values.ensures.width c.shift.ensures c.in_ok-values.ensures.values
