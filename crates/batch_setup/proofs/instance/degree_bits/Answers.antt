use Rattle.std.proofs.Common.{sym, ◌∙◌, ap, subst, arith}
use Rattle.std.specs.Int.{IsPowerOfTwo}
use Rattle.p3_matrix.specs.Matrix.{Rows, height}
use Rattle.batch_setup.proofs.instance.degree_bits.Goals as goal

pub bits_of_trace-requires-clause-power : goal.bits_of_trace-requires-clause-power
bits_of_trace-requires-clause-power g c =
    subst (λ (t : Rows g.row.F.Denot). IsPowerOfTwo (height t)) (ap (λ i. i.trace) (sym c.instance-item.is ∙ sym c.instance.view_is))
    (c.requires.powers c.loop-instance.instance-index c.instance-item.result (omega arith))
