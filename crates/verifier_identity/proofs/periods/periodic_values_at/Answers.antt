use Rattle.std.proofs.Common.{Vec, Global}
use Rattle.p3_field.specs.Field.{TwoAdic, Extension}
use Rattle.verifier_identity.proofs.PeriodicColumns.{values_on_ok}
use Rattle.verifier_identity.proofs.periods.periodic_values_at.Goals as goal

pub returns : goal.returns
returns g c =
    let f : TwoAdic g.row.F.Denot = record { ring = g.F.RingCore.ring; inv = g.F.FieldCore.inv; root = g.F.TwoAdicCore.root; generator = g.F.FieldCore.GENERATOR } in
    let e : Extension g.row.F.Denot g.row.E.Denot = record { ring = g.E.RingCore.ring; embed = g.E.ExtensionField.embed; dimension = g.E.BasedVectorSpace.DIMENSION; basis = g.E.ExtensionField.basis; coefficients = g.E.BasedVectorSpace.coefficients; from_coefficients = g.E.BasedVectorSpace.from_coefficients } in
    values_on_ok f e g.met.F.RingCore.ring_laws g.met.F.FieldCore.field_laws g.F.TwoAdicCore.TWO_ADICITY g.met.F.TwoAdicCore.root_laws (λ (w : Vec g.row.F.Denot Global). w.items) (λ (w : Vec g.row.E.Denot Global). w.items)
    c.args.domain.now c.args.zeta c.args.columns.columns.now c.args.columns.height c.evaluate_periodic_columns_at.result c.valid.ensures.1 c.valid.ensures.0 c.requires c.args.columns.fit c.evaluate_periodic_columns_at.ensures
