use Rattle.std.proofs.Common.{ℕ, ◌<◌, [], All, map, get_or}
use Rattle.air_core.specs.Shape.{Declaration, declared_shape}
use Rattle.p3_lookup.specs.Lookup.{IsLookup}
use Rattle.p3_lookup.specs.Written.{read_all}
use Rattle.batch_statement.proofs.reads.lookups_fit.Given as goal

abbrev pub invariant-loop-i : goal.invariant-loop-i
invariant-loop-i g l = (k : ℕ) → k < l.i → (d : Declaration g.row.F.Denot) → All (IsLookup (declared_shape (get_or (map g.A.BaseAir.declaration l.airs) k d))) (get_or (map read_all l.lookups) k [])
