use Rattle.p3_field.specs.Laws.TwoAdic.{decide_by}
use Rattle.law_acceptance.specs.Laws.HonestMatrices.{chunks_committed, mains_committed, permutations_committed, preprocesseds_committed}
use Rattle.law_acceptance.specs.Laws.Opened.{kept_on}
use Rattle.law_acceptance.proofs.openings.honest_matrices_are_committed.Goals as goal

pub returns-clause-mains : goal.returns-clause-mains
returns-clause-mains g k config s traces degree_bits commitment_of w z held plain B K =
    mains_committed _ _ s traces degree_bits
    (record {
      below = g.met.SC.Val.RingCore.ring_laws;
      below_field = g.met.SC.Val.FieldCore.field_laws;
      below_decided = decide_by _ g.met.SC.Val.FieldCore.eq_same g.met.SC.Val.FieldCore.same_eq;
      roots = g.met.SC.Val.TwoAdicCore.root_laws;
      above = g.met.SC.Challenge.RingCore.ring_laws;
      above_field = g.met.SC.Challenge.FieldCore.field_laws;
      above_decided = decide_by _ g.met.SC.Challenge.FieldCore.eq_same g.met.SC.Challenge.FieldCore.same_eq;
      embeds = g.met.SC.Challenge.ExtensionField.embed_laws;
      vector = g.met.SC.Challenge.BasedVectorSpace.vector_laws;
      spans = g.met.SC.Challenge.ExtensionField.basis_laws;
    })
    B plain w z held (kept_on _ _ _ _ g.met.SC.Pcs.CosetPcs.coset_points g.met.SC.Pcs.CosetPcs.coset_point _ held K)

pub returns-clause-chunks : goal.returns-clause-chunks
returns-clause-chunks g k config s traces degree_bits commitment_of w z held plain B K =
    chunks_committed _ _ s traces degree_bits
    (record {
      below = g.met.SC.Val.RingCore.ring_laws;
      below_field = g.met.SC.Val.FieldCore.field_laws;
      below_decided = decide_by _ g.met.SC.Val.FieldCore.eq_same g.met.SC.Val.FieldCore.same_eq;
      roots = g.met.SC.Val.TwoAdicCore.root_laws;
      above = g.met.SC.Challenge.RingCore.ring_laws;
      above_field = g.met.SC.Challenge.FieldCore.field_laws;
      above_decided = decide_by _ g.met.SC.Challenge.FieldCore.eq_same g.met.SC.Challenge.FieldCore.same_eq;
      embeds = g.met.SC.Challenge.ExtensionField.embed_laws;
      vector = g.met.SC.Challenge.BasedVectorSpace.vector_laws;
      spans = g.met.SC.Challenge.ExtensionField.basis_laws;
    })
    B plain w z held (kept_on _ _ _ _ g.met.SC.Pcs.CosetPcs.coset_points g.met.SC.Pcs.CosetPcs.coset_point _ held K)

pub returns-clause-permutations : goal.returns-clause-permutations
returns-clause-permutations g k config s traces degree_bits commitment_of w z held plain B K =
    permutations_committed _ _ s traces degree_bits
    (record {
      below = g.met.SC.Val.RingCore.ring_laws;
      below_field = g.met.SC.Val.FieldCore.field_laws;
      below_decided = decide_by _ g.met.SC.Val.FieldCore.eq_same g.met.SC.Val.FieldCore.same_eq;
      roots = g.met.SC.Val.TwoAdicCore.root_laws;
      above = g.met.SC.Challenge.RingCore.ring_laws;
      above_field = g.met.SC.Challenge.FieldCore.field_laws;
      above_decided = decide_by _ g.met.SC.Challenge.FieldCore.eq_same g.met.SC.Challenge.FieldCore.same_eq;
      embeds = g.met.SC.Challenge.ExtensionField.embed_laws;
      vector = g.met.SC.Challenge.BasedVectorSpace.vector_laws;
      spans = g.met.SC.Challenge.ExtensionField.basis_laws;
    })
    B plain w z held (kept_on _ _ _ _ g.met.SC.Pcs.CosetPcs.coset_points g.met.SC.Pcs.CosetPcs.coset_point _ held K)

pub returns-clause-preprocesseds : goal.returns-clause-preprocesseds
returns-clause-preprocesseds g k config s traces degree_bits commitment_of w z held plain B some K =
    preprocesseds_committed _ _ s traces degree_bits
    (record {
      below = g.met.SC.Val.RingCore.ring_laws;
      below_field = g.met.SC.Val.FieldCore.field_laws;
      below_decided = decide_by _ g.met.SC.Val.FieldCore.eq_same g.met.SC.Val.FieldCore.same_eq;
      roots = g.met.SC.Val.TwoAdicCore.root_laws;
      above = g.met.SC.Challenge.RingCore.ring_laws;
      above_field = g.met.SC.Challenge.FieldCore.field_laws;
      above_decided = decide_by _ g.met.SC.Challenge.FieldCore.eq_same g.met.SC.Challenge.FieldCore.same_eq;
      embeds = g.met.SC.Challenge.ExtensionField.embed_laws;
      vector = g.met.SC.Challenge.BasedVectorSpace.vector_laws;
      spans = g.met.SC.Challenge.ExtensionField.basis_laws;
    })
    B plain w z some held (kept_on _ _ _ _ g.met.SC.Pcs.CosetPcs.coset_points g.met.SC.Pcs.CosetPcs.coset_point _ held K)
