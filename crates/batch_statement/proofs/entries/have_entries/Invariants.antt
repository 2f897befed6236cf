use Rattle.std.proofs.Common.{ℕ, ◌<◌, map, get_or, None}
use Rattle.air_core.specs.Shape.{Declaration, width_of}
use Rattle.batch_statement.specs.Statement.{HasEntryOf}
use Rattle.batch_statement.proofs.entries.have_entries.Given as goal

abbrev pub invariant-loop-i : goal.invariant-loop-i
invariant-loop-i g l = (k : ℕ) → k < l.i → (d : Declaration g.row.F.Denot) → HasEntryOf (width_of (get_or (map g.A.BaseAir.declaration l.airs) k d).preprocessed) (get_or l.entries k None)
