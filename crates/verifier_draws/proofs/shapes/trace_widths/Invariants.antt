use Rattle.std.proofs.Common.{◌≡◌, map, take}
use Rattle.verifier_draws.proofs.shapes.trace_widths.Given as goal

abbrev pub invariant-loop-air : goal.invariant-loop-air
invariant-loop-air g l = l.widths.items ≡ map (λ a. (g.A.BaseAir.declaration a).width) (take l.air-index l.airs)
