use Rattle.std.proofs.Common.{◌≡◌, ◌*◌}
use Rattle.p3_field.specs.Domain.{coset_point}
use Rattle.p3_dft.proofs.Weighed.{IsWeighed}
use Rattle.p3_dft.proofs.rows.weighed_rows.Given as goal

abbrev pub invariant-loop-at : goal.invariant-loop-at
invariant-loop-at g l = IsWeighed g.F.RingCore.ring l.width l.fn.weight l.step l.fn.m.values l.values.items l.at

abbrev pub invariant-loop-row : goal.invariant-loop-row
invariant-loop-row g l = record {
  weighed : IsWeighed g.F.RingCore.ring l.width l.fn.weight l.step l.fn.m.values l.values.items (l.row * l.width);
  factor_is : l.factor ≡ coset_point g.F.RingCore.ring l.fn.weight l.step l.row;
}
