use Rattle.std.proofs.Common.{◌≡◌, ◌++◌, replicate}
use Rattle.batch_transcript.specs.BatchScript.{lookup_terminal_step}
use Rattle.batch_transcript.proofs.shape.push_terminals.Given as goal

abbrev pub invariant-loop-i : goal.invariant-loop-i
invariant-loop-i l = l.steps.items ≡ l.initial.steps.items ++ replicate l._i (lookup_terminal_step l.dimension)
