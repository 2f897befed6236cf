use Rattle.std.proofs.Common.{◌≡◌, length, take}
use Rattle.std.specs.Prelude.{max}
use Rattle.std.specs.List.{fold}
use Rattle.batch_transcript.proofs.buses.wider.Given as goal

abbrev pub invariant-loop-tuple : goal.invariant-loop-tuple
invariant-loop-tuple g l = l.widest ≡ fold (λ w t. max w (length t.items)) l.width (take l.tuple-index l.tuples)
