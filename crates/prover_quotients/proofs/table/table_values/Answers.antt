use Rattle.std.proofs.Common.{◌∙◌, ap}
use Rattle.std.specs.Prelude.{option_to_list}
use Rattle.p3_field.specs.Laws.TwoAdic.{decide_by}
use Rattle.law_committed.specs.Fields.{FieldsLaws}
use Rattle.prover_quotients.proofs.Shapes.{follows}
use Rattle.prover_quotients.proofs.Valued.{main_here, periods_here, permutation_here, preprocessed_here, terminals_here, values_here}
use Rattle.prover_quotients.proofs.table.table_values.Given.{Over}
use Rattle.prover_quotients.proofs.table.table_values.Goals as goal

laws : (g : Over) → FieldsLaws (record { ring = g.SC.Val.RingCore.ring; inv = g.SC.Val.FieldCore.inv; root = g.SC.Val.TwoAdicCore.root; generator = g.SC.Val.FieldCore.GENERATOR })
    (record { ring = g.SC.Challenge.RingCore.ring; embed = g.SC.Challenge.ExtensionField.embed; dimension = g.SC.Challenge.BasedVectorSpace.DIMENSION; basis = g.SC.Challenge.ExtensionField.basis; coefficients = g.SC.Challenge.BasedVectorSpace.coefficients; from_coefficients = g.SC.Challenge.BasedVectorSpace.from_coefficients })
    g.SC.Val.TwoAdicCore.TWO_ADICITY g.SC.Challenge.FieldCore.inv
laws g = record {
  below = g.met.SC.Val.RingCore.ring_laws;
  below_field = g.met.SC.Val.FieldCore.field_laws;
  below_decided = decide_by _ g.met.SC.Val.FieldCore.eq_same g.met.SC.Val.FieldCore.same_eq;
  roots = g.met.SC.Val.TwoAdicCore.root_laws;
  above = g.met.SC.Challenge.RingCore.ring_laws;
  above_field = g.met.SC.Challenge.FieldCore.field_laws;
  above_decided = decide_by _ g.met.SC.Challenge.FieldCore.eq_same g.met.SC.Challenge.FieldCore.same_eq;
  embeds = g.met.SC.Challenge.ExtensionField.embed_laws;
  vector = g.met.SC.Challenge.BasedVectorSpace.vector_laws;
  spans = g.met.SC.Challenge.ExtensionField.basis_laws;
}

pub quotient_values-requires-clause-width : goal.quotient_values-requires-clause-width
quotient_values-requires-clause-width g c =
    main_here _ _ g.A.BaseAir.declaration g.A.Air.trees _ c.args.instance.now c.instance.view_is c.args.lookups.now c.args.challenges.now (laws g) c.requires.traced c.args.domain c.args.columns.now c.requires.columns

pub quotient_values-requires-clause-permutation_width : goal.quotient_values-requires-clause-permutation_width
quotient_values-requires-clause-permutation_width g c =
    permutation_here _ _ g.A.BaseAir.declaration g.A.Air.trees _ c.args.instance.now c.instance.view_is c.args.lookups.now c.args.challenges.now (laws g) c.requires.traced c.args.domain c.args.columns.now c.requires.columns
    c.as_ref.result c.as_slice.result.now c.as_ref.ensures.value c.as_slice.ensures

pub quotient_values-requires-clause-preprocessed_width : goal.quotient_values-requires-clause-preprocessed_width
quotient_values-requires-clause-preprocessed_width g c =
    preprocessed_here _ _ g.A.BaseAir.declaration g.A.Air.trees _ c.args.instance.now c.instance.view_is c.args.lookups.now c.args.challenges.now (laws g) c.requires.traced c.args.domain c.args.columns.now c.requires.columns
    c.as_ref-2.result c.as_ref-2.ensures.value

pub quotient_values-requires-clause-terminals : goal.quotient_values-requires-clause-terminals
quotient_values-requires-clause-terminals g c =
    terminals_here _ _ g.A.BaseAir.declaration g.A.Air.trees _ c.args.instance.now c.instance.view_is c.args.lookups.now c.args.challenges.now (laws g) c.requires.traced
    c.as_slice.result.now c.deref-2.result.now c.as_slice.ensures (c.deref-2.ensures.value ∙ (c.in_ok-terminals.ensures ∙ ap option_to_list c.requires.terminal))

pub quotient_values-requires-clause-periods : goal.quotient_values-requires-clause-periods
quotient_values-requires-clause-periods g c =
    periods_here _ g.A.BaseAir.declaration g.A.Air.trees _ c.args.instance.now c.instance.view_is c.args.lookups.now c.requires.traced
    c.natural_domain-rows.result (ap (λ d. d.log_size) c.natural_domain-rows.ensures ∙ c.log_rows.ensures)

pub returns : goal.returns
returns g c =
    follows c.quotient_values.result _ _ c.quotient_values.ensures (λ v h.
    values_here _ _ g.A.BaseAir.declaration g.A.Air.trees _ c.args.instance.now c.instance.view_is c.args.lookups.now c.args.challenges.now (laws g) c.requires.traced c.args.domain c.args.columns.now c.requires.columns
    c.natural_domain-rows.result c.as_ref.result c.as_ref-2.result c.as_slice.result.now c.deref.result.now c.deref-2.result.now c.args.alpha v.items c.deref.ensures.value c.as_ref.ensures.value c.as_ref-2.ensures.value c.as_slice.ensures
    (c.deref-2.ensures.value ∙ (c.in_ok-terminals.ensures ∙ ap option_to_list c.requires.terminal)) (ap (λ d. d.log_size) c.natural_domain-rows.ensures ∙ c.log_rows.ensures) h)
