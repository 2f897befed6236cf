use Rattle.std.proofs.Common.{append_assoc, ◌++◌, ap, ◌∙◌}
use Rattle.std.proofs.lemmas.List.{replicate_more}
use Rattle.batch_transcript.specs.BatchScript.{lookup_terminal_step}
use Rattle.batch_transcript.proofs.shape.push_terminals.Goals as goal

pub loop-i-preserved : goal.loop-i-preserved
loop-i-preserved c =
    let s = lookup_terminal_step c.args.dimension in
    c.in_ok-push_message.ensures ∙ rw (c.loop-i.invariant, append_assoc) (ap (λ l. c.args.steps.now.items ++ l) (replicate_more c.loop-i._i s))
