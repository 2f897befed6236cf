use Rattle.std.proofs.Common.{[]}
use Rattle.p3_lookup.proofs.emission.scaled_less.Goals as goal

pub returns-in_err-scaled-clause-appends : goal.returns-in_err-scaled-clause-appends
returns-in_err-scaled-clause-appends g c = g.met.AB.AirBuilder.appends_along _ _ _ [] [] [] [] c.ext_cell.ensures.appends c.mul_ext.ensures.appends

pub returns-clause-appends : goal.returns-clause-appends
returns-clause-appends g c =
    let then = g.met.AB.AirBuilder.appends_along in
    then _ _ _ [] [] [] [] c.ext_cell.ensures.appends (then _ _ _ [] [] [] [] c.mul_ext.ensures.appends c.sub_ext.ensures.appends)

pub returns-clause-represents : goal.returns-clause-represents
returns-clause-represents g c s t hs ht =
    let B = g.met.AB.AirBuilder in
    let X = g.met.AB.ExtensionBuilder in
    let one = X.persists_ext _ _ (B.appends_later _ _ _ _ c.ext_cell.ensures.appends) in
    let two = X.persists_ext _ _ (B.appends_later _ _ _ _ c.mul_ext.ensures.appends) in
    c.sub_ext.ensures.represents _ _ (c.in_ok-scaled.ensures.represents _ _ c.in_ok-x.ensures.represents (one _ _ hs)) (two _ _ (one _ _ ht))
