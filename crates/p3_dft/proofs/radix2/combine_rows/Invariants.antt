use Rattle.std.proofs.Common.{◌≡◌, ◌*◌}
use Rattle.p3_field.specs.Domain.{coset_point}
use Rattle.p3_dft.proofs.Combined.{IsCombined}
use Rattle.p3_dft.proofs.radix2.combine_rows.Given as goal

abbrev pub invariant-loop-at : goal.invariant-loop-at
invariant-loop-at g l = IsCombined g.F.RingCore.ring l.width l.fn.shift l.generator l.fn.first l.fn.second l.first l.second l.at

abbrev pub invariant-loop-row : goal.invariant-loop-row
invariant-loop-row g l = record {
  combined : IsCombined g.F.RingCore.ring l.width l.fn.shift l.generator l.fn.first l.fn.second l.first l.second (l.row * l.width);
  point_is : l.point ≡ coset_point g.F.RingCore.ring l.fn.shift l.generator l.row;
}
