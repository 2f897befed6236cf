use Rattle.std.proofs.Common.{◌≡◌, ◌++◌, ap, ◌∙◌, map, List}
use Rattle.p3_challenger.specs.declared.script.Interaction.{Interaction}
use Rattle.batch_transcript.specs.BatchScript.{pattern, degree_bits_step, public_values_step}
use Rattle.batch_transcript.specs.Laws.Matched.{grown}
use Rattle.batch_transcript.proofs.shape.BatchShape.steps.Goals as goal

pub returns : goal.returns
returns c =
    let d = c.args.dimension in
    let i = c.self.inside in
    let first : List Interaction = map (λ _. degree_bits_step d) i.trace_widths.items in
    let x1 : c.push_degree_bits.new.steps.items ≡ first = c.in_ok-push_degree_bits.ensures ∙ rw (c.new-steps.ensures.items, c.deref.ensures.value) in
    grown d (record {
      trace_widths = i.trace_widths.items;
      public_value_counts = i.public_value_counts.items;
      preprocessed_widths = i.preprocessed_widths.items;
      has_preprocessed_commitment = i.has_preprocessed_commitment;
      num_lookup_instances = i.num_lookup_instances;
      lookup_pow_bits = i.lookup_pow_bits;
      has_randomization_commitment = i.has_randomization_commitment;
      ood_pow_bits = i.ood_pow_bits;
      version = i.version;
      lookup_counts = i.lookup_counts.items;
    }) _ _ _ _ _ _ _ _ _ _
    x1 c.in_ok-push_message.ensures
    (c.in_ok-push_public_values.ensures ∙ ap (λ l. c.push_message.new.steps.items ++ map public_values_step l) c.deref-2.ensures.value)
    c.in_ok-push_commitment_if.ensures c.in_ok-push_pair.ensures
    c.in_ok-push_permutation.ensures c.in_ok-push_challenge.ensures c.in_ok-push_message-2.ensures c.in_ok-push_commitment_if-2.ensures c.in_ok-push_closing.ensures
    ∙ ap (pattern d) c.self.view_is
