use Rattle.std.proofs.Common.{[]}
use Rattle.air_core.specs.Laws.Appending.{none_first, some_after}
use Rattle.air_gadgets.specs.Laws.Packing.{represent_later}
use Rattle.air_core.specs.Laws.Appended.{on_failure}
use Rattle.blake3_binary.specs.Places.{second_sum_trees}
use Rattle.blake3_binary.proofs.rounds.assert_second_sum.Goals as goal

pub returns-in_err-x-clause-on_error : goal.returns-in_err-x-clause-on_error
returns-in_err-x-clause-on_error g c =
    let then = g.met.AB.AirBuilder.appends_along in
    on_failure (record { some = none_first g.AB.AirBuilder.appends _ _ _ _ (c.word_at.ensures.appends) })

pub returns-in_err-y-clause-on_error : goal.returns-in_err-y-clause-on_error
returns-in_err-y-clause-on_error g c =
    let then = g.met.AB.AirBuilder.appends_along in
    on_failure (record { some = none_first g.AB.AirBuilder.appends _ _ _ _ (then _ _ _ [] [] [] [] c.word_at.ensures.appends (c.bits_at.ensures.appends)) })

pub returns-in_err-sum-clause-on_error : goal.returns-in_err-sum-clause-on_error
returns-in_err-sum-clause-on_error g c =
    let then = g.met.AB.AirBuilder.appends_along in
    on_failure (record { some = none_first g.AB.AirBuilder.appends _ _ _ _ (then _ _ _ [] [] [] [] c.word_at.ensures.appends (then _ _ _ [] [] [] [] c.bits_at.ensures.appends (c.turned_at.ensures.appends))) })

pub returns-clause-appends : goal.returns-clause-appends
unfolding second_sum_trees
returns-clause-appends g c =
    let B = g.met.AB.AirBuilder in
    let then = B.appends_along in
    let past_y = B.persists _ _ (B.appends_later _ _ _ _ c.bits_at.ensures.appends) in
    let past_sum = B.persists _ _ (B.appends_later _ _ _ _ c.turned_at.ensures.appends) in
    let h_x = represent_later _ _ _ _ past_sum (represent_later _ _ _ _ past_y (c.in_ok-x.ensures.represents)) in
    let h_y = represent_later _ _ _ _ past_sum (c.in_ok-y.ensures.represents) in
    let h_sum = c.in_ok-sum.ensures.represents in
    record { all = then _ _ _ [] _ [] [] c.word_at.ensures.appends (then _ _ _ [] _ [] [] c.bits_at.ensures.appends (then _ _ _ [] _ [] [] c.turned_at.ensures.appends ((c.in_ok-assert_sum2.ensures.appends _ _ _ h_x h_y h_sum).all))) }

pub returns-in_err-assert_sum2-clause-on_error : goal.returns-in_err-assert_sum2-clause-on_error
unfolding second_sum_trees
returns-in_err-assert_sum2-clause-on_error g c =
    let B = g.met.AB.AirBuilder in
    let then = B.appends_along in
    let past_y = B.persists _ _ (B.appends_later _ _ _ _ c.bits_at.ensures.appends) in
    let past_sum = B.persists _ _ (B.appends_later _ _ _ _ c.turned_at.ensures.appends) in
    let h_x = represent_later _ _ _ _ past_sum (represent_later _ _ _ _ past_y (c.in_ok-x.ensures.represents)) in
    let h_y = represent_later _ _ _ _ past_sum (c.in_ok-y.ensures.represents) in
    let h_sum = c.in_ok-sum.ensures.represents in
    on_failure (record { some = some_after then _ _ _ [] _ [] [] (then _ _ _ [] [] [] [] c.word_at.ensures.appends (then _ _ _ [] [] [] [] c.bits_at.ensures.appends (c.turned_at.ensures.appends))) (c.in_err-assert_sum2.ensures.on_error _ _ _ h_x h_y h_sum).holds.some })
