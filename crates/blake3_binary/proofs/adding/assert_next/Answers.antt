use Rattle.std.proofs.Common.{[]}
use Rattle.air_core.specs.Laws.Represent.{holds_on_err}
use Rattle.blake3_binary.proofs.adding.assert_next.Goals as goal

pub returns-in_err-all-clause-on_error : goal.returns-in_err-all-clause-on_error
returns-in_err-all-clause-on_error g c =
    holds_on_err _ (g.met.AB.AirBuilder.appends_along _ _ _ [] [] [] [] c.majority.ensures.appends c.add.ensures.appends)

pub returns-in_err-assert_zero-clause-on_error : goal.returns-in_err-assert_zero-clause-on_error
returns-in_err-assert_zero-clause-on_error g c =
    let then = g.met.AB.AirBuilder.appends_along in
    holds_on_err _ (then _ _ _ [] [] [] [] c.majority.ensures.appends (then _ _ _ [] [] [] [] c.add.ensures.appends c.in_err-assert_zero.ensures.on_error))

pub returns-clause-appends : goal.returns-clause-appends
returns-clause-appends g c s t u v hs ht hu hv =
    let B = g.met.AB.AirBuilder in
    let then = B.appends_along in
    let both = c.in_ok-both.ensures.represents _ _ _ hs ht hu in
    let next = B.persists _ _ (B.appends_later _ _ _ _ c.majority.ensures.appends) _ _ hv in
    then _ _ _ [] _ [] [] c.majority.ensures.appends (then _ _ _ [] _ [] [] c.add.ensures.appends (c.in_ok-assert_zero.ensures.appends _ (c.in_ok-all.ensures.represents _ _ both next)))
