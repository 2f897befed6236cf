use Rattle.std.proofs.Common.{◌≡◌, ℕ, map}
use Rattle.p3_field.specs.Poly.{tabulate}
use Rattle.p3_field.specs.Checks.{NoneFails, in_turn}
use Rattle.p3_lookup.specs.Written.{read_all}
use Rattle.batch_statement.specs.Statement.{tables_of}
use Rattle.verifier_shape.specs.ShapeChecks.{sizes_at, log_chunks_at}
use Rattle.verifier_shape.proofs.sizes.check_sizes.Given as goal

abbrev pub invariant-loop-index : goal.invariant-loop-index
invariant-loop-index g l = record {
  none : NoneFails (in_turn l.index (sizes_at {R = g.row.R.Denot} g.F.RingCore.ring l.least l.most l.masks
      (tables_of g.A.BaseAir.declaration g.A.Air.trees l.airs) (map read_all l.lookups) l.degree_bits));
  list : l.chunks.items ≡ tabulate l.index (log_chunks_at g.F.RingCore.ring l.masks
      (tables_of g.A.BaseAir.declaration g.A.Air.trees l.airs) (map read_all l.lookups) l.degree_bits);
}
