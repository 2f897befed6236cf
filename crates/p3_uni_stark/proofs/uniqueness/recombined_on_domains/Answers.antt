use Rattle.p3_field.specs.Laws.TwoAdic.{decide_by}
use Rattle.p3_uni_stark.specs.Laws.Parts.{recombined_on_part}
use Rattle.p3_uni_stark.specs.Laws.Weights.{recombined_at_own}
use Rattle.p3_uni_stark.proofs.uniqueness.recombined_on_domains.Goals as goal

pub returns-clause-own : goal.returns-clause-own
returns-clause-own g c =
    recombined_at_own (record { ring = g.F.RingCore.ring; inv = g.F.FieldCore.inv; root = g.F.TwoAdicCore.root; generator = g.F.FieldCore.GENERATOR })
    g.met.F.RingCore.ring_laws g.met.F.FieldCore.field_laws g.F.TwoAdicCore.TWO_ADICITY g.met.F.TwoAdicCore.root_laws
    (record { ring = g.EF.RingCore.ring; embed = g.EF.ExtensionField.embed; dimension = g.EF.BasedVectorSpace.DIMENSION; basis = g.EF.ExtensionField.basis; coefficients = g.EF.BasedVectorSpace.coefficients; from_coefficients = g.EF.BasedVectorSpace.from_coefficients })
    g.met.EF.RingCore.ring_laws g.met.EF.ExtensionField.embed_laws (decide_by _ g.met.F.FieldCore.eq_same g.met.F.FieldCore.same_eq)

pub returns-clause-part : goal.returns-clause-part
returns-clause-part g c whole n parts chunks i k shift fits each h =
    recombined_on_part (record { ring = g.F.RingCore.ring; inv = g.F.FieldCore.inv; root = g.F.TwoAdicCore.root; generator = g.F.FieldCore.GENERATOR })
    g.met.F.RingCore.ring_laws g.met.F.FieldCore.field_laws g.F.TwoAdicCore.TWO_ADICITY g.met.F.TwoAdicCore.root_laws whole shift fits n parts each
    (record { ring = g.EF.RingCore.ring; embed = g.EF.ExtensionField.embed; dimension = g.EF.BasedVectorSpace.DIMENSION; basis = g.EF.ExtensionField.basis; coefficients = g.EF.BasedVectorSpace.coefficients; from_coefficients = g.EF.BasedVectorSpace.from_coefficients })
    g.met.EF.RingCore.ring_laws g.met.EF.ExtensionField.embed_laws (decide_by _ g.met.F.FieldCore.eq_same g.met.F.FieldCore.same_eq)
    chunks i k h
