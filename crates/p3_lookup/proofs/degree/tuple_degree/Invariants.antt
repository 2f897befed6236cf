use Rattle.std.proofs.Common.{◌≡◌, ◌<◌, ◌^◌, drop, map}
use Rattle.p3_field.specs.Poly.{eval_poly}
use Rattle.air_core.specs.Degree.{multiple}
use Rattle.air_core.specs.Tree.{Tree}
use Rattle.air_core.specs.Symbolic.{tree_of}
use Rattle.p3_lookup.specs.Trees.{trees}
use Rattle.p3_lookup.proofs.degree.tuple_degree.Given as goal

abbrev pub invariant-loop-i : goal.invariant-loop-i
invariant-loop-i g l = record {
  fits : l.degree < 2 ^ 64;
  so_far : (b : Tree g.row.F.Denot) → multiple l.t b ≡ 0 → l.degree ≡ multiple l.t (eval_poly (trees g.F.RingCore.ring) (drop l.i (map tree_of l.tuple)) b);
}
