use Rattle.std.proofs.Common.{◌≡◌, length, subst}
use Rattle.std.specs.Prelude.{IfOk}
use Rattle.p3_field.specs.Field.{Extension}
use Rattle.verifier_identity.specs.OpenedRows.{recombined_row}
use Rattle.verifier_identity.proofs.Lengths.{columns_found}
use Rattle.verifier_identity.proofs.made_rows.permutation_row.Goals as goal

pub returns : goal.returns
returns g c =
    let e : Extension g.row.F.Denot g.row.E.Denot = record { ring = g.E.RingCore.ring; embed = g.E.ExtensionField.embed; dimension = g.E.BasedVectorSpace.DIMENSION; basis = g.E.ExtensionField.basis; coefficients = g.E.BasedVectorSpace.coefficients; from_coefficients = g.E.BasedVectorSpace.from_coefficients } in
    let laws = g.met.E.BasedVectorSpace.vector_laws in
    subst (λ k. IfOk c.recombined_row.result (λ v. v.items ≡ recombined_row e c.args.row.now k))
    (columns_found c.args.lookups g.E.BasedVectorSpace.DIMENSION c.DIMENSION.result (length c.args.row.now) laws.positive c.DIMENSION.ensures c.requires) c.recombined_row.ensures
