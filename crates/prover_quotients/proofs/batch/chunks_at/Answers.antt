use Rattle.std.proofs.Common.{[], None, ◌∙◌}
use Rattle.std.specs.Option.{option_map}
use Rattle.p3_field.specs.Laws.TwoAdic.{decide_by}
use Rattle.prover_quotients.proofs.Items.{chunks_here, held_here, image_at, many, pairs_here, terminal_here, traced_here}
use Rattle.prover_quotients.proofs.Shapes.{follows}
use Rattle.prover_quotients.proofs.batch.chunks_at.Goals as goal

pub table_chunks-requires-clause-traced : goal.table_chunks-requires-clause-traced
table_chunks-requires-clause-traced g c =
    traced_here _ (record { inverse = _; canonical = g.SC.Val.PrimeCore64.canonical; commitment_of = _ }) g.A.BaseAir.declaration g.A.Air.trees c.args.instances.now c.args.common.now c.requires.traced c.args.index c.requires.index
    c.index-instances-index.result c.index-instances-index.is _ c.common.view_is c.index.result.now c.index.ensures
    (record {
      below = g.met.SC.Val.RingCore.ring_laws;
      below_field = g.met.SC.Val.FieldCore.field_laws;
      below_decided = decide_by _ g.met.SC.Val.FieldCore.eq_same g.met.SC.Val.FieldCore.same_eq;
      roots = g.met.SC.Val.TwoAdicCore.root_laws;
      above = g.met.SC.Challenge.RingCore.ring_laws;
      above_field = g.met.SC.Challenge.FieldCore.field_laws;
      above_decided = decide_by _ g.met.SC.Challenge.FieldCore.eq_same g.met.SC.Challenge.FieldCore.same_eq;
      embeds = g.met.SC.Challenge.ExtensionField.embed_laws;
      vector = g.met.SC.Challenge.BasedVectorSpace.vector_laws;
      spans = g.met.SC.Challenge.ExtensionField.basis_laws;
    })

pub table_chunks-requires-clause-held : goal.table_chunks-requires-clause-held
table_chunks-requires-clause-held g c =
    let i = c.args.index in
    let count = many g.A.BaseAir.declaration g.A.Air.trees c.args.instances.now in
    let drawn = c.deref.ensures.value ∙ image_at (λ v. v.items) c.args.challenges.now i _ _ c.index-challenges-index.result [] c.requires.given.challenges_long count c.requires.index c.index-challenges-index.is in
    held_here _ _ g.A.BaseAir.declaration g.A.Air.trees c.args.instances.now c.args.common.now c.requires.traced i c.requires.index c.index-instances-index.result c.index-instances-index.is
    _ c.common.view_is c.index.result.now c.index.ensures _ _ _ _ _ _ c.requires.given c.deref.result.now drawn _ _ c.preprocessed_place.ensures c.requires.place

pub table_chunks-requires-clause-challenges : goal.table_chunks-requires-clause-challenges
table_chunks-requires-clause-challenges g c =
    let i = c.args.index in
    let count = many g.A.BaseAir.declaration g.A.Air.trees c.args.instances.now in
    let drawn = c.deref.ensures.value ∙ image_at (λ v. v.items) c.args.challenges.now i _ _ c.index-challenges-index.result [] c.requires.given.challenges_long count c.requires.index c.index-challenges-index.is in
    pairs_here _ _ g.A.BaseAir.declaration g.A.Air.trees c.args.instances.now c.args.common.now c.requires.traced i c.requires.index c.index-instances-index.result c.index-instances-index.is
    _ c.common.view_is c.index.result.now c.index.ensures _ _ _ _ _ _ c.requires.given c.deref.result.now drawn

pub table_chunks-requires-clause-terminal : goal.table_chunks-requires-clause-terminal
table_chunks-requires-clause-terminal g c =
    let i = c.args.index in
    let count = many g.A.BaseAir.declaration g.A.Air.trees c.args.instances.now in
    let drawn = c.deref.ensures.value ∙ image_at (λ v. v.items) c.args.challenges.now i _ _ c.index-challenges-index.result [] c.requires.given.challenges_long count c.requires.index c.index-challenges-index.is in
    terminal_here _ _ g.A.BaseAir.declaration g.A.Air.trees c.args.instances.now c.args.common.now c.requires.traced i c.requires.index c.index-instances-index.result c.index-instances-index.is
    _ c.common.view_is c.index.result.now c.index.ensures _ _ _ _ _ _ c.requires.given c.deref.result.now drawn _
    (image_at (option_map (λ t. t.0)) c.args.terminals.now i _ _ c.index-terminals-index.result None c.requires.given.terminals_long count c.requires.index c.index-terminals-index.is)

pub returns : goal.returns
returns g c =
    let i = c.args.index in
    let count = many g.A.BaseAir.declaration g.A.Air.trees c.args.instances.now in
    let drawn = c.deref.ensures.value ∙ image_at (λ v. v.items) c.args.challenges.now i _ _ c.index-challenges-index.result [] c.requires.given.challenges_long count c.requires.index c.index-challenges-index.is in
    follows c.table_chunks.result _ _ c.table_chunks.ensures (λ v h.
    h ∙ chunks_here _ _ g.A.BaseAir.declaration g.A.Air.trees c.args.instances.now c.args.common.now c.requires.traced i c.requires.index c.index-instances-index.result c.index-instances-index.is
    _ c.common.view_is c.index.result.now c.index.ensures _ _ _ _ _ _ c.requires.given c.deref.result.now drawn c.args.alpha)
