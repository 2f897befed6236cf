use Rattle.std.proofs.Common.{◌≡◌, map, drop}
use Rattle.p3_field.specs.Poly.{eval_poly}
use Rattle.air_core.specs.Symbolic.{tree_of}
use Rattle.p3_lookup.specs.Generated.{embedded_at}
use Rattle.p3_lookup.proofs.values.combined_value.Given as goal

abbrev pub invariant-loop-i : goal.invariant-loop-i
invariant-loop-i g l = l.sum ≡ eval_poly g.EF.RingCore.ring (map (embedded_at g.F.RingCore.ring g.EF.ExtensionField.embed l.row) (drop l.i (map tree_of l.tuple))) l.beta
