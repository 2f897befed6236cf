use Rattle.std.proofs.Common.{[]}
use Rattle.blake3_binary.proofs.adding.majority.Goals as goal

pub returns-in_err-second-clause-appends : goal.returns-in_err-second-clause-appends
returns-in_err-second-clause-appends g c =
    let then = g.met.AB.AirBuilder.appends_along in
    then _ _ _ [] _ [] [] c.add.ensures.appends (c.add-2.ensures.appends)

pub returns-in_err-both-clause-appends : goal.returns-in_err-both-clause-appends
returns-in_err-both-clause-appends g c =
    let then = g.met.AB.AirBuilder.appends_along in
    then _ _ _ [] _ [] [] c.add.ensures.appends (then _ _ _ [] _ [] [] c.add-2.ensures.appends (c.mul.ensures.appends))

pub returns-in_err-all-clause-appends : goal.returns-in_err-all-clause-appends
returns-in_err-all-clause-appends g c =
    let then = g.met.AB.AirBuilder.appends_along in
    then _ _ _ [] _ [] [] c.add.ensures.appends (then _ _ _ [] _ [] [] c.add-2.ensures.appends (then _ _ _ [] _ [] [] c.mul.ensures.appends (c.add-3.ensures.appends)))

pub returns-clause-appends : goal.returns-clause-appends
returns-clause-appends g c =
    let then = g.met.AB.AirBuilder.appends_along in
    then _ _ _ [] _ [] [] c.add.ensures.appends (then _ _ _ [] _ [] [] c.add-2.ensures.appends (then _ _ _ [] _ [] [] c.mul.ensures.appends (c.add-3.ensures.appends)))
