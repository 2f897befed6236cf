use Rattle.std.proofs.Common.{All, take}
use Rattle.air_core.specs.Shape.{declared_shape, IsInteraction}
use Rattle.air_core.specs.Recording.{sent_at}
use Rattle.air_core.proofs.recorder.InteractionSymbolicBuilder.interactions_read_declared.Given as goal

abbrev pub invariant-loop-index : goal.invariant-loop-index
invariant-loop-index g l = All (IsInteraction (declared_shape (g.A.BaseAir.declaration l.air))) (sent_at l.self.nodes (take l.index l.self.interactions))
