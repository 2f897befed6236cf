use Rattle.std.proofs.Common.{◌≡◌, [], map, take}
use Rattle.batch_transcript.specs.Running.{lists}
use Rattle.batch_transcript.proofs.buses.empty_layout.Given as goal

abbrev pub invariant-loop-instance : goal.invariant-loop-instance
invariant-loop-instance g l = lists l.all.items ≡ map (λ _. []) (take l._instance-index l.lookups)
