use Rattle.std.proofs.Common.{sym, ◌∙◌}
use Rattle.batch_statement.specs.Laws.Widths.{have_one_width-means}
use Rattle.batch_statement.proofs.widths.have_one_width.Goals as goal

pub returns : goal.returns
returns g c =
    let means = have_one_width-means {F = g.row.F.Denot} c.args.tables.now in
    ((λ h. means.0 (sym c.all_agree.ensures ∙ h)), λ h. c.all_agree.ensures ∙ means.1 h)
