use Rattle.std.proofs.Common.{All, map, take}
use Rattle.air_core.specs.Shape.{declared_shape, ReadsSendable}
use Rattle.air_core.specs.Symbolic.{tree_of}
use Rattle.air_core.proofs.reads.all_sendable.Given as goal

abbrev pub invariant-loop-expression : goal.invariant-loop-expression
invariant-loop-expression g l = All (ReadsSendable (declared_shape (g.A.BaseAir.declaration l.air))) (map tree_of (take l.expression-index l.expressions))
