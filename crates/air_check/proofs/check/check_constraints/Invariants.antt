use Rattle.std.proofs.Common.{ℕ, ◌<◌}
use Rattle.std.specs.Option.{option_map}
use Rattle.air_core.specs.Check.{table_traces, HoldsAtRow}
use Rattle.air_check.proofs.check.check_constraints.Given as goal

abbrev pub invariant-loop-row : goal.invariant-loop-row
invariant-loop-row g l =
    let table = table_traces l.main (option_map (λ m. m.now) l.preprocessed) (g.A.BaseAir.declaration l.air).periodic l.public_values in
    (i : ℕ) → i < l.row → HoldsAtRow g.F.RingCore.ring table (g.A.Air.trees l.air) i
