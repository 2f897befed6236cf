use Rattle.std.proofs.Common.{◌≡◌, ◌-◌, ◌^◌, map, take}
use Rattle.commit_core.specs.Commitments.{Committed, values_of}
use Rattle.plain_pcs.specs.Opening.{HaveMatrixValues}
use Rattle.plain_pcs.proofs.opening.opened_matrix.Given as goal

abbrev pub invariant-loop-point : goal.invariant-loop-point
invariant-loop-point g l = (c : Committed g.row.F.Denot) → HaveMatrixValues g.F.RingCore.ring g.F.TwoAdicCore.root (2 ^ (l.domain.log_size - l.log_blowup)) l.domain l.matrix c.polynomials
    → map (λ v. v.items) l.values.items ≡ map (values_of g.E.RingCore.ring g.E.ExtensionField.embed c) (take l.point-index l.points)
