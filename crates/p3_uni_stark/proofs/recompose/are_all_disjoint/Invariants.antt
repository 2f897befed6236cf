use Rattle.std.proofs.Common.{ℕ, ◌<◌}
use Rattle.p3_field.specs.Field.{TwoAdic}
use Rattle.p3_uni_stark.specs.Recombine.{IsDisjointFrom}
use Rattle.p3_uni_stark.proofs.recompose.are_all_disjoint.Given as goal

abbrev pub invariant-loop-index : goal.invariant-loop-index
invariant-loop-index g l =
    let f : TwoAdic g.row.F.Denot = record { ring = g.F.RingCore.ring; inv = g.F.FieldCore.inv; root = g.F.TwoAdicCore.root; generator = g.F.FieldCore.GENERATOR } in
    (i : ℕ) → i < l.index → IsDisjointFrom f l.domains i
