use Rattle.std.proofs.Common.{◌≡◌, take}
use Rattle.batch_transcript.proofs.Widest.{with_lookups}
use Rattle.batch_transcript.proofs.buses.with_instance.Given as goal

abbrev pub invariant-loop-lookup : goal.invariant-loop-lookup
invariant-loop-lookup g l = l.widest ≡ with_lookups l.width (take l.lookup-index l.lookups)
