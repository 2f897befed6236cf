use Rattle.std.proofs.Common.{◌∙◌}
use Rattle.p3_field.specs.Laws.TwoAdic.{decide_by}
use Rattle.prover_openings.proofs.Sized.{countable, counts_are, powers}
use Rattle.prover_openings.proofs.batch.open_batch.Goals as goal

pub degree_bits-requires-clause-powers : goal.degree_bits-requires-clause-powers
degree_bits-requires-clause-powers g c = powers _ _ g.A.BaseAir.declaration g.A.Air.trees c.args.instances.now c.args.common.now c.requires.traced c.requires.plain

pub all_counts-requires-clause-countable : goal.all_counts-requires-clause-countable
all_counts-requires-clause-countable g c =
    countable _ _ g.A.BaseAir.declaration g.A.Air.trees c.args.instances.now c.args.common.now c.requires.traced c.requires.plain _ c.lookups_of.ensures _
    (record {
      below = g.met.SC.Val.RingCore.ring_laws;
      below_field = g.met.SC.Val.FieldCore.field_laws;
      below_decided = decide_by _ g.met.SC.Val.FieldCore.eq_same g.met.SC.Val.FieldCore.same_eq;
      roots = g.met.SC.Val.TwoAdicCore.root_laws;
      above = g.met.SC.Challenge.RingCore.ring_laws;
      above_field = g.met.SC.Challenge.FieldCore.field_laws;
      above_decided = decide_by _ g.met.SC.Challenge.FieldCore.eq_same g.met.SC.Challenge.FieldCore.same_eq;
      embeds = g.met.SC.Challenge.ExtensionField.embed_laws;
      vector = g.met.SC.Challenge.BasedVectorSpace.vector_laws;
      spans = g.met.SC.Challenge.ExtensionField.basis_laws;
    })
    g.met.SC.Val.TwoAdicCore.below_64

pub open_counted-requires-clause-chunks : goal.open_counted-requires-clause-chunks
open_counted-requires-clause-chunks g c = counts_are _ _ g.A.BaseAir.declaration g.A.Air.trees c.args.instances.now c.args.common.now c.requires.traced c.requires.plain _ c.lookups_of.ensures _ (c.deref-2.ensures.value ∙ c.in_ok-counts.ensures)
