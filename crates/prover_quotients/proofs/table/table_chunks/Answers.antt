use Rattle.std.proofs.Common.{◌∙◌, ap}
use Rattle.p3_field.specs.Laws.TwoAdic.{decide_by}
use Rattle.batch_config.specs.Domains.{offered}
use Rattle.batch_setup.specs.Preprocessed.{natural}
use Rattle.prover_quotients.proofs.Chunked.{chunks_from, values_count}
use Rattle.prover_quotients.proofs.Shapes.{follows_both}
use Rattle.prover_quotients.proofs.table.table_chunks.Goals as goal

pub chunks_of_values-requires-clause-count : goal.chunks_of_values-requires-clause-count
chunks_of_values-requires-clause-count g c = values_count _ _ _ _ _ c.quotient_domain-domain.result c.deref.result.now (c.deref.ensures.value ∙ c.in_ok-values.ensures)

pub returns : goal.returns
returns g c =
    let ring = g.SC.Val.RingCore.ring in
    let rows = c.natural_domain-rows.ensures ∙ ap (natural ring.one) c.log_rows.ensures in
    follows_both c.chunks_of_values.result _ _ _ c.chunks_of_values.ensures.chunks c.chunks_of_values.ensures.fills (λ v h fill.
    chunks_from _ _ _ c.args.challenges.now
    (record {
      below = g.met.SC.Val.RingCore.ring_laws;
      below_field = g.met.SC.Val.FieldCore.field_laws;
      below_decided = decide_by _ g.met.SC.Val.FieldCore.eq_same g.met.SC.Val.FieldCore.same_eq;
      roots = g.met.SC.Val.TwoAdicCore.root_laws;
      above = g.met.SC.Challenge.RingCore.ring_laws;
      above_field = g.met.SC.Challenge.FieldCore.field_laws;
      above_decided = decide_by _ g.met.SC.Challenge.FieldCore.eq_same g.met.SC.Challenge.FieldCore.same_eq;
      embeds = g.met.SC.Challenge.ExtensionField.embed_laws;
      vector = g.met.SC.Challenge.BasedVectorSpace.vector_laws;
      spans = g.met.SC.Challenge.ExtensionField.basis_laws;
    })
    c.args.alpha v.items c.quotient_domain-domain.result c.in_ok-parts.parts c.deref.result.now
    (c.quotient_domain-domain.ensures ∙ (λ j. offered ring g.SC.Val.FieldCore.GENERATOR (rows j) (c.in_ok-parts.ensures j))) c.in_ok-parts.ensures (c.deref.ensures.value ∙ c.in_ok-values.ensures) fill h)
