use Rattle.std.proofs.Common.{◌≡◌, map, take}
use Rattle.prover_batch.proofs.transcript.public_values.Given as goal

abbrev pub invariant-loop-instance : goal.invariant-loop-instance
invariant-loop-instance g l = map (λ p. p.items) l.values.items ≡ map (λ i. i.public_values) (take l.instance-index l.instances)
