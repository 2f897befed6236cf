use Rattle.p3_field.specs.Laws.TwoAdic.{decide_by}
use Rattle.law_acceptance.specs.Laws.Airs.{airs_accepted}
use Rattle.law_acceptance.proofs.meanings.honest_proofs_are_accepted.Goals as goal

pub returns : goal.returns
returns g k = λ config airs publics common traces degree_bits commitment_of q plain few V G outside.
    airs_accepted _ _ g.SC.Val.PartialEq.eq g.A.BaseAir.declaration g.A.Air.trees g.met.A.BaseAir.has_columns g.met.A.Air.trees_read airs publics common traces degree_bits
    (record {
      below = g.met.SC.Val.RingCore.ring_laws;
      below_field = g.met.SC.Val.FieldCore.field_laws;
      below_decided = decide_by _ g.met.SC.Val.FieldCore.eq_same g.met.SC.Val.FieldCore.same_eq;
      roots = g.met.SC.Val.TwoAdicCore.root_laws;
      above = g.met.SC.Challenge.RingCore.ring_laws;
      above_field = g.met.SC.Challenge.FieldCore.field_laws;
      above_decided = decide_by _ g.met.SC.Challenge.FieldCore.eq_same g.met.SC.Challenge.FieldCore.same_eq;
      embeds = g.met.SC.Challenge.ExtensionField.embed_laws;
      vector = g.met.SC.Challenge.BasedVectorSpace.vector_laws;
      spans = g.met.SC.Challenge.ExtensionField.basis_laws;
    })
    g.met.SC.Val.FieldCore.eq_same g.met.SC.Val.FieldCore.same_eq
    (record { ones = g.met.SC.Val.PrimeCore64.of_canonical; below = g.met.SC.Val.PrimeCore64.canonical_below })
    _ q plain g.met.SC.Val.TwoAdicCore.below_64 few V G outside
