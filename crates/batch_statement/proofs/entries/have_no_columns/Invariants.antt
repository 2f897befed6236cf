use Rattle.std.proofs.Common.{◌≡◌, ℕ, ◌<◌, map, get_or}
use Rattle.air_core.specs.Shape.{Declaration, width_of}
use Rattle.batch_statement.proofs.entries.have_no_columns.Given as goal

abbrev pub invariant-loop-i : goal.invariant-loop-i
invariant-loop-i g l = (k : ℕ) → k < l.i → (d : Declaration g.row.F.Denot) → width_of (get_or (map g.A.BaseAir.declaration l.airs) k d).preprocessed ≡ 0
