use Rattle.std.proofs.Common.{[]}
use Rattle.blake3_binary.proofs.adding.sum_of_three.Goals as goal

pub returns-in_err-all-clause-appends : goal.returns-in_err-all-clause-appends
returns-in_err-all-clause-appends g c =
    let then = g.met.AB.AirBuilder.appends_along in
    then _ _ _ [] _ [] [] c.add.ensures.appends (c.add-2.ensures.appends)

pub returns-clause-appends : goal.returns-clause-appends
returns-clause-appends g c =
    let then = g.met.AB.AirBuilder.appends_along in
    then _ _ _ [] _ [] [] c.add.ensures.appends (c.add-2.ensures.appends)
