use Rattle.std.proofs.Common.{map}
use Rattle.p3_field.specs.Field.{Extension, TwoAdic}
use Rattle.batch_statement.specs.Statement.{statement_with, tables_of}
use Rattle.verifier_identity.specs.TableIdentity.{identity_at}
use Rattle.audit_batch.specs.Asked.{in_order, of_each}
use Rattle.audit_batch.specs.Named.{AreNamedAfter}
use Rattle.audit_batch.proofs.identities.name_identities.Given as goal

abbrev pub invariant-loop-index : goal.invariant-loop-index
invariant-loop-index g l =
    let f : TwoAdic g.row.F.Denot = record { ring = g.F.RingCore.ring; inv = g.F.FieldCore.inv; root = g.F.TwoAdicCore.root; generator = g.F.FieldCore.GENERATOR } in
    let e : Extension g.row.F.Denot g.row.E.Denot = record {
      ring = g.E.RingCore.ring;
      embed = g.E.ExtensionField.embed;
      dimension = g.E.BasedVectorSpace.DIMENSION;
      basis = g.E.ExtensionField.basis;
      coefficients = g.E.BasedVectorSpace.coefficients;
      from_coefficients = g.E.BasedVectorSpace.from_coefficients;
    } in
    let s = statement_with (tables_of g.A.BaseAir.declaration g.A.Air.trees l.airs) (map (λ v. v.items) l.public_values) l.common in
    AreNamedAfter l.fn.faults.items (of_each l.index
    (λ i. in_order (identity_at {R = g.row.R.Denot} f e l.bounds.masks s l.proof.instances l.proof.lookup_terminals l.proof.degree_bits
    (map (λ v. v.items) l.challenges) (map (λ v. v.items) l.domains) l.alpha l.zeta i))) l.faults.items
