use Rattle.std.proofs.Common.{◌∙◌, List, length, sym, subst, ap}
use Rattle.std.specs.Prelude.{zip}
use Rattle.p3_matrix.specs.Matrix.{Rows}
use Rattle.commit_core.specs.Commitments.{AreParts}
use Rattle.commit_core.specs.Laws.Pairs.{EachOf-zip}
use Rattle.commit_core.proofs.univariate.quotient_parts.Goals as goal

pub paired-requires : goal.paired-requires
paired-requires g c = ap length c.deref.ensures.value ∙ (c.in_ok-domains.ensures.count ∙ sym c.in_ok-rows.ensures.count)

pub returns : goal.returns
returns g c =
    let items = c.in_ok-parts.ensures ∙ ap (λ ds. zip ds c.in_ok-rows.rows.items) c.deref.ensures.value in
    let P : List (g.row.D.Denot × Rows g.row.D-Val.Denot) → Type 0 = λ ps. AreParts (g.D.PolynomialSpace.part c.args.domain.now c.args.num_chunks) c.args.evaluations c.args.num_chunks ps in
    subst P (sym items) (EachOf-zip c.args.num_chunks c.in_ok-domains.domains.items c.in_ok-rows.rows.items _ _ c.in_ok-domains.ensures c.in_ok-rows.ensures)
