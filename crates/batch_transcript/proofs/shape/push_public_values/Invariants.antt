use Rattle.std.proofs.Common.{◌≡◌, ◌++◌, map, take}
use Rattle.batch_transcript.specs.BatchScript.{public_values_step}
use Rattle.batch_transcript.proofs.shape.push_public_values.Given as goal

abbrev pub invariant-loop-count : goal.invariant-loop-count
invariant-loop-count l = l.steps.items ≡ l.initial.steps.items ++ map public_values_step (take l.count-index l.counts)
