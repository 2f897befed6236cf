use Rattle.std.proofs.Common.{◌^◌, ◌≤◌, sym, ◌∙◌, ap, subst, arith}
use Rattle.std.specs.Int.{IsPowerOfTwo}
use Rattle.p3_matrix.specs.Matrix.{Rows, height}
use Rattle.prover_commits.proofs.traces.traces_on_rows.Goals as goal

pub on_rows-requires-clause-power : goal.on_rows-requires-clause-power
on_rows-requires-clause-power g c =
    subst (λ (t : Rows g.row.SC-Val.Denot). IsPowerOfTwo (height t)) (ap (λ i. i.trace) (sym c.instance-item.is ∙ sym c.instance.view_is))
    (c.requires.powers c.loop-instance.instance-index c.instance-item.result (omega arith))

pub on_rows-requires-clause-fits : goal.on_rows-requires-clause-fits
on_rows-requires-clause-fits g c =
    subst (λ (t : Rows g.row.SC-Val.Denot). height t ≤ 2 ^ g.SC.Val.TwoAdicCore.TWO_ADICITY) (ap (λ i. i.trace) (sym c.instance-item.is ∙ sym c.instance.view_is))
    (c.requires.fit c.loop-instance.instance-index c.instance-item.result (omega arith))
