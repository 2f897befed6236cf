use Rattle.std.proofs.lemmas.Result.{IfOk-weaker, on_err_weaker}
use Rattle.std.proofs.Common.{[], ◌∷◌, rules}
use Rattle.air_core.specs.Laws.Appending.{none_first, none_on_err, some_after}
use Rattle.air_gadgets.proofs.gadgets.add2.Goals as goal

pub returns-clause-appends : goal.returns-clause-appends
returns-clause-appends g c s t u hs ht hu =
    let B = g.met.AB.AirBuilder in
    let after = B.appends_later in
    let a0 = hs.each 0 c.index-a-0.result (search rules) in
    let b0 = ht.each 0 c.index-b-0.result (search rules) in
    let c0 = hu.each 0 c.index-c-0.result (search rules) in
    let a1 = hs.each 1 c.index-a-1.result (search rules) in
    let b1 = ht.each 1 c.index-b-1.result (search rules) in
    let c1 = hu.each 1 c.index-c-1.result (search rules) in
    let keep = B.persists _ _ (after _ _ _ _ c.difference_of_three.ensures.appends) in
    let low = c.in_ok-low.ensures.represents _ _ _ a0 b0 c0 in
    let high = c.in_ok-high.ensures.represents _ _ _ (keep _ _ a1) (keep _ _ b1) (keep _ _ c1) in
    let low-2 = B.persists _ _ (after _ _ _ _ c.difference_of_three-2.ensures.appends) _ _ low in
    let whole = c.in_ok-whole.ensures.represents _ _ low-2 high in
    let low-3 = B.persists _ _ (after _ _ _ _ c.with_high.ensures.appends) _ _ low-2 in
    let first = c.in_ok-assert_zero_or_one.ensures.appends _ whole in
    let low-4 = B.persists _ _ (after _ _ _ _ first) _ _ low-3 in
    let then = B.appends_along in
    IfOk-weaker _ _ _
    (λ _ p. then _ _ _ [] _ [] [] c.difference_of_three.ensures.appends
    (then _ _ _ [] _ [] [] c.difference_of_three-2.ensures.appends
    (then _ _ _ [] _ [] [] c.with_high.ensures.appends
    (then _ _ _ (_ ∷ []) _ [] [] first p))))
    (c.assert_zero_or_one-2.ensures.appends _ low-4)

pub returns-in_err-low-clause-on_error : goal.returns-in_err-low-clause-on_error
returns-in_err-low-clause-on_error g c s t u hs ht hu =
    none_on_err g.AB.AirBuilder.appends _ _ _ _ _ c.difference_of_three.ensures.appends

pub returns-in_err-high-clause-on_error : goal.returns-in_err-high-clause-on_error
returns-in_err-high-clause-on_error g c s t u hs ht hu =
    let then = g.met.AB.AirBuilder.appends_along in
    none_on_err g.AB.AirBuilder.appends _ _ _ _ _ (then _ _ _ [] [] [] [] c.difference_of_three.ensures.appends c.difference_of_three-2.ensures.appends)

pub returns-in_err-whole-clause-on_error : goal.returns-in_err-whole-clause-on_error
returns-in_err-whole-clause-on_error g c s t u hs ht hu =
    let then = g.met.AB.AirBuilder.appends_along in
    none_on_err g.AB.AirBuilder.appends _ _ _ _ _ (then _ _ _ [] [] [] [] c.difference_of_three.ensures.appends (then _ _ _ [] [] [] [] c.difference_of_three-2.ensures.appends c.with_high.ensures.appends))

pub returns-in_err-assert_zero_or_one-clause-on_error : goal.returns-in_err-assert_zero_or_one-clause-on_error
returns-in_err-assert_zero_or_one-clause-on_error g c s t u hs ht hu =
    let then = g.met.AB.AirBuilder.appends_along in
    none_on_err g.AB.AirBuilder.appends _ _ _ _ _ (then _ _ _ [] [] [] [] c.difference_of_three.ensures.appends (then _ _ _ [] [] [] [] c.difference_of_three-2.ensures.appends (then _ _ _ [] [] [] [] c.with_high.ensures.appends c.in_err-assert_zero_or_one.ensures.on_error)))

pub returns-clause-on_error : goal.returns-clause-on_error
returns-clause-on_error g c s t u hs ht hu =
    let B = g.met.AB.AirBuilder in
    let after = B.appends_later in
    let a0 = hs.each 0 c.index-a-0.result (search rules) in
    let b0 = ht.each 0 c.index-b-0.result (search rules) in
    let c0 = hu.each 0 c.index-c-0.result (search rules) in
    let a1 = hs.each 1 c.index-a-1.result (search rules) in
    let b1 = ht.each 1 c.index-b-1.result (search rules) in
    let c1 = hu.each 1 c.index-c-1.result (search rules) in
    let keep = B.persists _ _ (after _ _ _ _ c.difference_of_three.ensures.appends) in
    let low = c.in_ok-low.ensures.represents _ _ _ a0 b0 c0 in
    let high = c.in_ok-high.ensures.represents _ _ _ (keep _ _ a1) (keep _ _ b1) (keep _ _ c1) in
    let low-2 = B.persists _ _ (after _ _ _ _ c.difference_of_three-2.ensures.appends) _ _ low in
    let whole = c.in_ok-whole.ensures.represents _ _ low-2 high in
    let first = c.in_ok-assert_zero_or_one.ensures.appends _ whole in
    let then = B.appends_along in
    let one =
    then _ _ _ [] _ [] [] c.difference_of_three.ensures.appends
    (then _ _ _ [] _ [] [] c.difference_of_three-2.ensures.appends
    (then _ _ _ [] _ [] [] c.with_high.ensures.appends first)) in
    on_err_weaker _ (λ p. some_after then _ _ _ (_ ∷ []) (_ ∷ []) [] [] one (none_first g.AB.AirBuilder.appends _ _ _ _ p)) c.assert_zero_or_one-2.ensures.on_error
