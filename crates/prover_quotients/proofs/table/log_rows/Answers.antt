use Rattle.std.proofs.Common.{sym, ◌∙◌, ap}
use Rattle.p3_matrix.specs.Laws.Powers.{power_cancel}
use Rattle.p3_matrix.specs.Matrix.{height}
use Rattle.prover_quotients.proofs.table.log_rows.Goals as goal

pub returns : goal.returns
returns g c =
    power_cancel c.log2_strict_usize.result _
    (sym c.log2_strict_usize.ensures ∙ (c.height.ensures.result ∙ (ap (λ i. height i.trace) c.instance.view_is ∙ c.requires.is_traced.rows.tall)))
