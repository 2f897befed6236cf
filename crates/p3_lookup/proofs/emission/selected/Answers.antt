use Rattle.std.proofs.Common.{[]}
use Rattle.p3_lookup.proofs.emission.selected.Goals as goal

pub returns-in_err-factor-clause-appends : goal.returns-in_err-factor-clause-appends
returns-in_err-factor-clause-appends g c = g.met.AB.AirBuilder.appends_along _ _ _ [] [] [] [] c.cell.ensures.appends c.lift.ensures.appends

pub returns-clause-appends : goal.returns-clause-appends
returns-clause-appends g c =
    let then = g.met.AB.AirBuilder.appends_along in
    then _ _ _ [] [] [] [] c.cell.ensures.appends (then _ _ _ [] [] [] [] c.lift.ensures.appends c.mul_ext.ensures.appends)

pub returns-clause-represents : goal.returns-clause-represents
returns-clause-represents g c t h =
    let B = g.met.AB.AirBuilder in
    let X = g.met.AB.ExtensionBuilder in
    let one = X.persists_ext _ _ (B.appends_later _ _ _ _ c.cell.ensures.appends) in
    let two = X.persists_ext _ _ (B.appends_later _ _ _ _ c.lift.ensures.appends) in
    c.mul_ext.ensures.represents _ _ (c.in_ok-factor.ensures.represents _ c.in_ok-cell.ensures.represents) (two _ _ (one _ _ h))
