use Rattle.std.proofs.Common.{◌≡◌, map, take}
use Rattle.air_core.specs.Shape.{width_of}
use Rattle.verifier_draws.proofs.shapes.preprocessed_widths.Given as goal

abbrev pub invariant-loop-air : goal.invariant-loop-air
invariant-loop-air g l = l.widths.items ≡ map (λ a. width_of (g.A.BaseAir.declaration a).preprocessed) (take l.air-index l.airs)
