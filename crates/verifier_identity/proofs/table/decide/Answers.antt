use Rattle.p3_field.specs.Field.{TwoAdic, Extension}
use Rattle.p3_lookup.specs.Written.{read_all}
use Rattle.batch_constraints.specs.BatchTrees.{table_trees}
use Rattle.verifier_identity.specs.VerifierData.{identity_opened_of}
use Rattle.verifier_identity.proofs.Named.{named_pass, named_refusal}
use Rattle.verifier_identity.proofs.table.decide.Goals as goal

pub returns-in-Ok : goal.returns-in-Ok
returns-in-Ok g c =
    let f : TwoAdic g.row.F.Denot = record { ring = g.F.RingCore.ring; inv = g.F.FieldCore.inv; root = g.F.TwoAdicCore.root; generator = g.F.FieldCore.GENERATOR } in
    let e : Extension g.row.F.Denot g.row.E.Denot = record { ring = g.E.RingCore.ring; embed = g.E.ExtensionField.embed; dimension = g.E.BasedVectorSpace.DIMENSION; basis = g.E.ExtensionField.basis; coefficients = g.E.BasedVectorSpace.coefficients; from_coefficients = g.E.BasedVectorSpace.from_coefficients } in
    let v = c.args.given.now in
    named_pass g.row.R.Denot _ f e c.args.index v.trace_domain v.alpha v.zeta (identity_opened_of v) (table_trees f.ring (g.A.Air.trees c.args.air.now) (read_all v.lookups.now)) v.quotient c.in-Ok.ensures

pub returns-in-Err : goal.returns-in-Err
returns-in-Err g c =
    let f : TwoAdic g.row.F.Denot = record { ring = g.F.RingCore.ring; inv = g.F.FieldCore.inv; root = g.F.TwoAdicCore.root; generator = g.F.FieldCore.GENERATOR } in
    let e : Extension g.row.F.Denot g.row.E.Denot = record { ring = g.E.RingCore.ring; embed = g.E.ExtensionField.embed; dimension = g.E.BasedVectorSpace.DIMENSION; basis = g.E.ExtensionField.basis; coefficients = g.E.BasedVectorSpace.coefficients; from_coefficients = g.E.BasedVectorSpace.from_coefficients } in
    let v = c.args.given.now in
    named_refusal g.row.R.Denot _ f e c.args.index v.trace_domain v.alpha v.zeta (identity_opened_of v) (table_trees f.ring (g.A.Air.trees c.args.air.now) (read_all v.lookups.now)) v.quotient
    c.in-Err.error c.of_table.result c.of_table.ensures.point c.of_table.ensures.mismatch c.in-Err.ensures
