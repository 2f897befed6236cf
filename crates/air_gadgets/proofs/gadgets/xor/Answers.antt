use Rattle.std.proofs.Common.{[]}
use Rattle.air_gadgets.proofs.gadgets.xor.Goals as goal

pub returns-in_err-two-clause-appends : goal.returns-in_err-two-clause-appends
returns-in_err-two-clause-appends g c = g.met.AB.AirBuilder.appends_along _ _ _ [] _ [] [] c.add.ensures.appends c.constant.ensures.appends

pub returns-in_err-both-clause-appends : goal.returns-in_err-both-clause-appends
returns-in_err-both-clause-appends g c =
    let then = g.met.AB.AirBuilder.appends_along in
    then _ _ _ [] _ [] [] c.add.ensures.appends (then _ _ _ [] _ [] [] c.constant.ensures.appends c.mul.ensures.appends)

pub returns-in_err-twice-clause-appends : goal.returns-in_err-twice-clause-appends
returns-in_err-twice-clause-appends g c =
    let then = g.met.AB.AirBuilder.appends_along in
    then _ _ _ [] _ [] [] c.add.ensures.appends
    (then _ _ _ [] _ [] [] c.constant.ensures.appends
    (then _ _ _ [] _ [] [] c.mul.ensures.appends c.mul-2.ensures.appends))

pub returns-in_err-difference-clause-appends : goal.returns-in_err-difference-clause-appends
returns-in_err-difference-clause-appends g c =
    let then = g.met.AB.AirBuilder.appends_along in
    then _ _ _ [] _ [] [] c.add.ensures.appends
    (then _ _ _ [] _ [] [] c.constant.ensures.appends
    (then _ _ _ [] _ [] [] c.mul.ensures.appends
    (then _ _ _ [] _ [] [] c.mul-2.ensures.appends c.sub.ensures.appends)))

pub returns-clause-appends : goal.returns-clause-appends
returns-clause-appends g c =
    let then = g.met.AB.AirBuilder.appends_along in
    then _ _ _ [] _ [] [] c.add.ensures.appends
    (then _ _ _ [] _ [] [] c.constant.ensures.appends
    (then _ _ _ [] _ [] [] c.mul.ensures.appends
    (then _ _ _ [] _ [] [] c.mul-2.ensures.appends c.sub.ensures.appends)))
