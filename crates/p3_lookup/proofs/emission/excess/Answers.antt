use Rattle.std.proofs.Common.{[]}
use Rattle.p3_lookup.proofs.emission.excess.Goals as goal

pub returns-in_err-from-clause-appends : goal.returns-in_err-from-clause-appends
returns-in_err-from-clause-appends g c = g.met.AB.AirBuilder.appends_along _ _ _ [] [] [] [] c.ext_cell.ensures.appends c.ext_cell-2.ensures.appends

pub returns-in_err-growth-clause-appends : goal.returns-in_err-growth-clause-appends
returns-in_err-growth-clause-appends g c =
    let then = g.met.AB.AirBuilder.appends_along in
    then _ _ _ [] [] [] [] c.ext_cell.ensures.appends (then _ _ _ [] [] [] [] c.ext_cell-2.ensures.appends c.sub_ext.ensures.appends)

pub returns-clause-appends : goal.returns-clause-appends
returns-clause-appends g c =
    let then = g.met.AB.AirBuilder.appends_along in
    then _ _ _ [] [] [] [] c.ext_cell.ensures.appends (then _ _ _ [] [] [] [] c.ext_cell-2.ensures.appends (then _ _ _ [] [] [] [] c.sub_ext.ensures.appends c.sub_ext-2.ensures.appends))

pub returns-clause-represents : goal.returns-clause-represents
returns-clause-represents g c t h =
    let B = g.met.AB.AirBuilder in
    let X = g.met.AB.ExtensionBuilder in
    let one = X.persists_ext _ _ (B.appends_later _ _ _ _ c.ext_cell.ensures.appends) in
    let two = X.persists_ext _ _ (B.appends_later _ _ _ _ c.ext_cell-2.ensures.appends) in
    let three = X.persists_ext _ _ (B.appends_later _ _ _ _ c.sub_ext.ensures.appends) in
    c.sub_ext-2.ensures.represents _ _
    (c.in_ok-growth.ensures.represents _ _ (two _ _ c.in_ok-to.ensures.represents) c.in_ok-from.ensures.represents)
    (three _ _ (two _ _ (one _ _ h)))
