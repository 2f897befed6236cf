use Rattle.std.proofs.Common.{All, map, take}
use Rattle.air_core.specs.Shape.{declared_shape, ReadsSendable}
use Rattle.p3_lookup.specs.Written.{tree_count}
use Rattle.batch_statement.proofs.reads.counts_are_sendable.Given as goal

abbrev pub invariant-loop-count : goal.invariant-loop-count
invariant-loop-count g l = All (λ c. ReadsSendable (declared_shape (g.A.BaseAir.declaration l.air)) c.value) (map tree_count (take l.count-index l.counts))
