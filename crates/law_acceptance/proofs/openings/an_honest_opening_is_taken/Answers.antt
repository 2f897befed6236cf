use Rattle.p3_field.specs.Laws.TwoAdic.{decide_by}
use Rattle.law_acceptance.specs.Laws.Opened.{opening_taken, opening_values}
use Rattle.law_acceptance.proofs.openings.an_honest_opening_is_taken.Goals as goal

pub returns-clause-taken : goal.returns-clause-taken
returns-clause-taken g k config s traces degree_bits commitment_of w z requests values proof plain B ask held opens avoid =
    opening_taken _ _ s traces degree_bits
    (record {
      below = g.met.SC.Val.RingCore.ring_laws;
      below_field = g.met.SC.Val.FieldCore.field_laws;
      below_decided = decide_by _ g.met.SC.Val.FieldCore.eq_same g.met.SC.Val.FieldCore.same_eq;
      roots = g.met.SC.Val.TwoAdicCore.root_laws;
      above = g.met.SC.Challenge.RingCore.ring_laws;
      above_field = g.met.SC.Challenge.FieldCore.field_laws;
      above_decided = decide_by _ g.met.SC.Challenge.FieldCore.eq_same g.met.SC.Challenge.FieldCore.same_eq;
      embeds = g.met.SC.Challenge.ExtensionField.embed_laws;
      vector = g.met.SC.Challenge.BasedVectorSpace.vector_laws;
      spans = g.met.SC.Challenge.ExtensionField.basis_laws;
    })
    B plain w z proof _ g.met.SC.Pcs.CosetPcs.coset_points _ _ _ requests values ask held opens avoid

pub returns-clause-values : goal.returns-clause-values
returns-clause-values g k config s traces degree_bits commitment_of w z requests values proof plain B ask held opens =
    opening_values _ _ s traces degree_bits
    (record {
      below = g.met.SC.Val.RingCore.ring_laws;
      below_field = g.met.SC.Val.FieldCore.field_laws;
      below_decided = decide_by _ g.met.SC.Val.FieldCore.eq_same g.met.SC.Val.FieldCore.same_eq;
      roots = g.met.SC.Val.TwoAdicCore.root_laws;
      above = g.met.SC.Challenge.RingCore.ring_laws;
      above_field = g.met.SC.Challenge.FieldCore.field_laws;
      above_decided = decide_by _ g.met.SC.Challenge.FieldCore.eq_same g.met.SC.Challenge.FieldCore.same_eq;
      embeds = g.met.SC.Challenge.ExtensionField.embed_laws;
      vector = g.met.SC.Challenge.BasedVectorSpace.vector_laws;
      spans = g.met.SC.Challenge.ExtensionField.basis_laws;
    })
    B plain w z proof _ g.met.SC.Pcs.CosetPcs.coset_points _ _ _ requests values ask held opens
