use Rattle.std.proofs.Common.{map, replicate, sym, ◌∙◌, ap, Vec, Global}
use Rattle.std.proofs.lemmas.Simd.{map-map}
use Rattle.p3_field.specs.Field.{TwoAdic, Extension}
use Rattle.verifier_identity.specs.OpenedRows.{recombined_row}
use Rattle.verifier_identity.specs.PeriodicValues.{periodic_value}
use Rattle.batch_statement.specs.Proof.{OpenedWithLookups}
use Rattle.verifier_identity.specs.TableIdentity.{permutation_column_count}
use Rattle.verifier_identity.proofs.made_rows.made_rows.Goals as goal

pub returns : goal.returns
returns g c =
    let f : TwoAdic g.row.F.Denot = record { ring = g.F.RingCore.ring; inv = g.F.FieldCore.inv; root = g.F.TwoAdicCore.root; generator = g.F.FieldCore.GENERATOR } in
    let e : Extension g.row.F.Denot g.row.E.Denot = record { ring = g.E.RingCore.ring; embed = g.E.ExtensionField.embed; dimension = g.E.BasedVectorSpace.DIMENSION; basis = g.E.ExtensionField.basis; coefficients = g.E.BasedVectorSpace.coefficients; from_coefficients = g.E.BasedVectorSpace.from_coefficients } in
    let a = c.args in
    let z = g.E.RingCore.ring.zero in
    let value = periodic_value f e a.domain.now a.zeta in
    let columns = permutation_column_count a.lookups in
    record {
      trace = λ h. c.in_ok-zeros_for.ensures (c.main_next_row_columns.ensures ∙ h) ∙ ap (λ w. replicate w z) c.width.ensures;
      preprocessed = λ h. c.in_ok-zeros_for-2.ensures (c.preprocessed_next_row_columns.ensures ∙ h) ∙ ap (λ w. replicate w z) c.preprocessed_width.ensures;
      periodic = c.in_ok-periodic_values_at.ensures ∙ (sym (map-map value (λ (v : Vec g.row.F.Denot Global). v.items) a.columns.columns.now) ∙ ap (map value) c.requires.columns);
      permutation_local = c.in_ok-permutation_row.ensures
          ∙ ap (λ row. recombined_row e row columns) (c.deref.ensures.value ∙ ap (λ (o : OpenedWithLookups g.row.E.Denot). o.permutation_local) c.opened.view_is);
      permutation_next = c.in_ok-permutation_row-2.ensures
          ∙ ap (λ row. recombined_row e row columns) (c.deref-2.ensures.value ∙ ap (λ (o : OpenedWithLookups g.row.E.Denot). o.permutation_next) c.opened.view_is);
    }
