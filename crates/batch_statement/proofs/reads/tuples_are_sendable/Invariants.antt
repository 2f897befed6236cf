use Rattle.std.proofs.Common.{All, map, take}
use Rattle.air_core.specs.Shape.{declared_shape, ReadsSendable}
use Rattle.air_core.specs.Symbolic.{tree_of}
use Rattle.batch_statement.proofs.reads.tuples_are_sendable.Given as goal

abbrev pub invariant-loop-tuple : goal.invariant-loop-tuple
invariant-loop-tuple g l = All (All (ReadsSendable (declared_shape (g.A.BaseAir.declaration l.air)))) (map (λ v. map tree_of v.items) (take l.tuple-index l.tuples))
