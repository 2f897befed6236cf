use Rattle.std.proofs.Common.{suc, [], ◌∷◌}
use Rattle.air_core.specs.Joined.{joined}
use Rattle.blake3_compress.specs.Generated.{Pushed}
use Rattle.blake3_binary.specs.Sums.{carry}
use Rattle.blake3_binary.proofs.generation.push_carries.Given as goal

abbrev pub invariant-loop-i : goal.invariant-loop-i
invariant-loop-i g l = Pushed g.F.RingCore.ring l.fn.values.items l.values.items (joined l.i (λ i. carry l.a l.b (suc i) ∷ []))
