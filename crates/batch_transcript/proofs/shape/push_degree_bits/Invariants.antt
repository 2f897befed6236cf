use Rattle.std.proofs.Common.{◌≡◌, ◌++◌, map, take}
use Rattle.batch_transcript.specs.BatchScript.{degree_bits_step}
use Rattle.batch_transcript.proofs.shape.push_degree_bits.Given as goal

abbrev pub invariant-loop-width : goal.invariant-loop-width
invariant-loop-width l = l.steps.items ≡ l.initial.steps.items ++ map (λ _. degree_bits_step l.dimension) (take l._width-index l.widths)
