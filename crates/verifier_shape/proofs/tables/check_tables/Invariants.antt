use Rattle.std.proofs.Common.{ℕ, map}
use Rattle.std.specs.Prelude.{option_map}
use Rattle.p3_field.specs.Checks.{NoneFails, in_turn}
use Rattle.p3_lookup.specs.Written.{read_all}
use Rattle.batch_statement.specs.Statement.{tables_of}
use Rattle.verifier_shape.specs.ShapeChecks.{opened_by}
use Rattle.verifier_shape.proofs.tables.check_tables.Given as goal

abbrev pub invariant-loop-index : goal.invariant-loop-index
invariant-loop-index g l =
    NoneFails (in_turn l.index (opened_by {R = g.row.R.Denot} (tables_of g.A.BaseAir.declaration g.A.Air.trees l.airs)
    (map (λ v. v.items) l.public_values) (map read_all l.lookups) l.instances (map (option_map (λ t. t.0)) l.terminals) l.chunks l.masks l.dimension))
