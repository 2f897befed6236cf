use Rattle.std.proofs.Common.{[]}
use Rattle.air_tables.proofs.sending.product_of_cells.Goals as goal

pub returns-in_err-b-clause-appends : goal.returns-in_err-b-clause-appends
returns-in_err-b-clause-appends g c = g.met.AB.AirBuilder.appends_along _ _ _ [] _ [] [] c.cell.ensures.appends c.cell-2.ensures.appends

pub returns-clause-appends : goal.returns-clause-appends
returns-clause-appends g c =
    let then = g.met.AB.AirBuilder.appends_along in
    then _ _ _ [] _ [] [] c.cell.ensures.appends (then _ _ _ [] _ [] [] c.cell-2.ensures.appends c.mul.ensures.appends)

pub returns-clause-represents : goal.returns-clause-represents
returns-clause-represents g c =
    let B = g.met.AB.AirBuilder in
    c.mul.ensures.represents _ _ (B.persists _ _ (B.appends_later _ _ _ _ c.cell-2.ensures.appends) _ _ c.in_ok-a.ensures.represents) c.in_ok-b.ensures.represents
