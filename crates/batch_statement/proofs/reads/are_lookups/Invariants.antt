use Rattle.std.proofs.Common.{All, map, take}
use Rattle.air_core.specs.Shape.{declared_shape}
use Rattle.p3_lookup.specs.Lookup.{IsLookup}
use Rattle.p3_lookup.specs.Written.{read}
use Rattle.batch_statement.proofs.reads.are_lookups.Given as goal

abbrev pub invariant-loop-i : goal.invariant-loop-i
invariant-loop-i g l = All (IsLookup (declared_shape (g.A.BaseAir.declaration l.air))) (map read (take l.i l.lookups))
