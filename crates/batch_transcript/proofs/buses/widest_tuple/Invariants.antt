use Rattle.std.proofs.Common.{◌≡◌, take}
use Rattle.std.specs.List.{fold}
use Rattle.batch_transcript.proofs.Widest.{with_lookups}
use Rattle.batch_transcript.proofs.buses.widest_tuple.Given as goal

abbrev pub invariant-loop-instance : goal.invariant-loop-instance
invariant-loop-instance g l = l.widest ≡ fold (λ w ls. with_lookups w ls) 1 (take l.instance-index l.lookups)
