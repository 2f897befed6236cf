use Rattle.plain_pcs.specs.Scheme.{scheme}
use Rattle.plain_pcs.proofs.Binding.{opened_bound}
use Rattle.plain_pcs.proofs.meanings.opened_claims_bind.Goals as goal

pub returns : goal.returns
returns g c b claims opens round i k m d at_round at_matrix at_claim =
    opened_bound (scheme g.F.RingCore.ring g.F.FieldCore.inv g.F.TwoAdicCore.root g.F.FieldCore.GENERATOR g.F.TwoAdicCore.TWO_ADICITY b) g.E.RingCore.ring g.E.ExtensionField.embed
    g.met.F.RingCore.ring_laws g.met.F.FieldCore.field_laws g.met.F.TwoAdicCore.root_laws g.met.F.FieldCore.generator_not_zero claims opens round i k m d at_round at_matrix at_claim
