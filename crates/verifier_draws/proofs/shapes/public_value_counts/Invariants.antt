use Rattle.std.proofs.Common.{◌≡◌, map, take}
use Rattle.verifier_draws.proofs.shapes.public_value_counts.Given as goal

abbrev pub invariant-loop-air : goal.invariant-loop-air
invariant-loop-air g l = l.counts.items ≡ map (λ a. (g.A.BaseAir.declaration a).public_values) (take l.air-index l.airs)
