use Rattle.std.proofs.Common.{[]}
use Rattle.air_gadgets.proofs.gadgets.times_more.Goals as goal

pub returns-in_err-more-clause-appends : goal.returns-in_err-more-clause-appends
returns-in_err-more-clause-appends g c =
    g.met.AB.AirBuilder.appends_along _ _ _ [] _ [] [] c.constant.ensures.appends c.add.ensures.appends

pub returns-clause-appends : goal.returns-clause-appends
returns-clause-appends g c =
    let then = g.met.AB.AirBuilder.appends_along in
    then _ _ _ [] _ [] [] c.constant.ensures.appends (then _ _ _ [] _ [] [] c.add.ensures.appends c.mul.ensures.appends)
