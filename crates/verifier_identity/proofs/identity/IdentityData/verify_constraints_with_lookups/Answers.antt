use Rattle.std.proofs.Common.{None, sym, ◌∙◌}
use Rattle.p3_field.specs.Field.{TwoAdic, Extension}
use Rattle.p3_lookup.specs.Written.{read_all}
use Rattle.batch_constraints.specs.BatchTrees.{table_trees}
use Rattle.verifier_folder.specs.FolderState.{all_opened}
use Rattle.verifier_identity.specs.VerifierData.{identity_opened_of}
use Rattle.verifier_identity.proofs.Quotients.{same_where_told, different_where_told}
use Rattle.verifier_identity.proofs.Verdicts.{point_refused, mismatch_refused, identity_passes, outside_is, divided_is}
use Rattle.verifier_identity.proofs.identity.IdentityData.verify_constraints_with_lookups.Goals as goal

pub returns-then-is_zero : goal.returns-then-is_zero
returns-then-is_zero g c = point_refused _ _ _ _ _ _ _ _ _ _ (sym c.vanishing_poly_at_point.ensures.value ∙ c.is_zero.ensures.0 c.if-is_zero.true)

pub returns-then-ne : goal.returns-then-ne
returns-then-ne g c =
    let v = c.args.self.now in
    let f : TwoAdic g.row.F.Denot = record { ring = g.F.RingCore.ring; inv = g.F.FieldCore.inv; root = g.F.TwoAdicCore.root; generator = g.F.FieldCore.GENERATOR } in
    let e : Extension g.row.F.Denot g.row.E.Denot = record { ring = g.E.RingCore.ring; embed = g.E.ExtensionField.embed; dimension = g.E.BasedVectorSpace.DIMENSION; basis = g.E.ExtensionField.basis; coefficients = g.E.BasedVectorSpace.coefficients; from_coefficients = g.E.BasedVectorSpace.from_coefficients } in
    let trees = table_trees g.F.RingCore.ring (g.A.Air.trees c.args.air.now) (read_all v.lookups.now) in
    let outside = outside_is f e v.trace_domain v.alpha v.zeta (identity_opened_of v) trees v.quotient c.vanishing_poly_at_point.result c.is_zero.result c.vanishing_poly_at_point.ensures.value c.is_zero.ensures.1 c.if-is_zero.false in
    let is = divided_is f e v.trace_domain v.alpha v.zeta (identity_opened_of v) trees v.quotient g.met.E.RingCore.ring_laws g.E.FieldCore.inv g.met.E.FieldCore.field_laws (all_opened c.folder-folder.result)
    c.verifier_fold_with_lookups-folded.result c.selectors_at_point-selectors.result.inv_vanishing c.mul.result outside c.folder-folder.ensures.reads c.verifier_fold_with_lookups-folded.ensures
    c.selectors_at_point-selectors.ensures.inverse (g.met.E.PrimeCharacteristicRing.muls _ _ _ c.mul.ensures) in
    mismatch_refused f e v.trace_domain v.alpha v.zeta (identity_opened_of v) trees v.quotient _ None outside (λ i. different_where_told g.E.PartialEq.eq _ _ _ c.ne.ensures g.met.E.FieldCore.same_eq c.if-ne.true (is.1 i))

pub returns : goal.returns
returns g c =
    let v = c.args.self.now in
    let f : TwoAdic g.row.F.Denot = record { ring = g.F.RingCore.ring; inv = g.F.FieldCore.inv; root = g.F.TwoAdicCore.root; generator = g.F.FieldCore.GENERATOR } in
    let e : Extension g.row.F.Denot g.row.E.Denot = record { ring = g.E.RingCore.ring; embed = g.E.ExtensionField.embed; dimension = g.E.BasedVectorSpace.DIMENSION; basis = g.E.ExtensionField.basis; coefficients = g.E.BasedVectorSpace.coefficients; from_coefficients = g.E.BasedVectorSpace.from_coefficients } in
    let trees = table_trees g.F.RingCore.ring (g.A.Air.trees c.args.air.now) (read_all v.lookups.now) in
    let outside = outside_is f e v.trace_domain v.alpha v.zeta (identity_opened_of v) trees v.quotient c.vanishing_poly_at_point.result c.is_zero.result c.vanishing_poly_at_point.ensures.value c.is_zero.ensures.1 c.if-is_zero.false in
    let is = divided_is f e v.trace_domain v.alpha v.zeta (identity_opened_of v) trees v.quotient g.met.E.RingCore.ring_laws g.E.FieldCore.inv g.met.E.FieldCore.field_laws (all_opened c.folder-folder.result)
    c.verifier_fold_with_lookups-folded.result c.selectors_at_point-selectors.result.inv_vanishing c.mul.result outside c.folder-folder.ensures.reads c.verifier_fold_with_lookups-folded.ensures
    c.selectors_at_point-selectors.ensures.inverse (g.met.E.PrimeCharacteristicRing.muls _ _ _ c.mul.ensures) in
    identity_passes f e v.trace_domain v.alpha v.zeta (identity_opened_of v) trees v.quotient _ None outside (is.0 (same_where_told g.E.PartialEq.eq _ _ _ c.ne.ensures g.met.E.FieldCore.eq_same c.if-ne.false))
