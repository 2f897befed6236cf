use Rattle.std.proofs.Common.{◌≡◌, ◌++◌}
use Rattle.p3_field.specs.Poly.{tabulate}
use Rattle.commit_encoder.proofs.encoder.padded.Given as goal

abbrev pub invariant-loop : goal.invariant-loop
invariant-loop g l = l.values.items ≡ l.initial.values.items ++ tabulate l.counter (λ _. g.F.RingCore.ring.zero)
