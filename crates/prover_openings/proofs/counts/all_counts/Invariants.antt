use Rattle.std.proofs.Common.{◌≡◌, ◌^◌, map}
use Rattle.p3_field.specs.Poly.{tabulate}
use Rattle.p3_lookup.specs.Written.{read_all}
use Rattle.batch_setup.specs.Setup.{airs_of}
use Rattle.batch_statement.specs.Statement.{tables_of}
use Rattle.prover_openings.specs.Counts.{log_count_at}
use Rattle.prover_openings.proofs.counts.all_counts.Given as goal

abbrev pub invariant-loop-index : goal.invariant-loop-index
invariant-loop-index g l =
    l.counts.items ≡ tabulate l.index (λ i. 2 ^ log_count_at g.F.RingCore.ring (tables_of g.A.BaseAir.declaration g.A.Air.trees (airs_of l.instances)) (map (λ i. i.trace) l.instances) (map read_all l.lookups) i)
