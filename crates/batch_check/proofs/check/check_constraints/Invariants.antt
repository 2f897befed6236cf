use Rattle.std.proofs.Common.{ℕ, ◌<◌}
use Rattle.std.specs.Option.{option_map}
use Rattle.air_core.specs.Check.{table_traces}
use Rattle.p3_lookup.specs.Written.{read_all}
use Rattle.batch_check.specs.BatchCheck.{checked_table, HoldsInRow}
use Rattle.batch_check.proofs.check.check_constraints.Given as goal

abbrev pub invariant-loop-row : goal.invariant-loop-row
invariant-loop-row g l =
    let own = table_traces l.main (option_map (λ m. m.now) l.preprocessed) (g.A.BaseAir.declaration l.air).periodic l.public_values in
    let table = checked_table own (read_all l.lookups) l.permutation l.permutation_challenges l.permutation_values in
    (i : ℕ) → i < l.row → HoldsInRow g.F.RingCore.ring g.EF.RingCore.ring g.EF.ExtensionField.embed table (g.A.Air.trees l.air) i
