use Rattle.std.proofs.Common.{◌≡◌, map}
use Rattle.p3_field.specs.Poly.{tabulate}
use Rattle.p3_field.specs.Checks.{NoneFails, in_turn}
use Rattle.p3_lookup.specs.Written.{read_all}
use Rattle.batch_setup.specs.Packed.{source_of, packed_at, budget_at}
use Rattle.batch_setup.proofs.lookups.batch_lookups.Given as goal

abbrev pub invariant-loop-instance : goal.invariant-loop-instance
invariant-loop-instance g l = record {
  none : NoneFails (in_turn l.instance (budget_at {E = g.row.E.Denot} g.F.RingCore.ring l.masks l.log_blowup
      (map (source_of g.A.BaseAir.declaration g.A.Air.trees g.A.Air.interactions) l.airs) l.degree_bits l.budgets));
  list : map read_all l.lookups.items ≡ tabulate l.instance (packed_at g.F.RingCore.ring l.masks
      (map (source_of g.A.BaseAir.declaration g.A.Air.trees g.A.Air.interactions) l.airs) l.degree_bits l.budgets);
}
