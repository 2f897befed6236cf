use Rattle.air_core.specs.Laws.Appending.{none_first}
use Rattle.air_gadgets.specs.Laws.Packing.{represent_later}
use Rattle.air_core.specs.Laws.Appended.{both, later, front, after_none, some_after_none, on_failure}
use Rattle.blake3_binary.specs.Sums.{with_carries, sum2_trees, sum3_trees}
use Rattle.blake3_binary.proofs.adding.assert_sum3.Goals as goal

pub returns-in_err-assert_carries-clause-on_error : goal.returns-in_err-assert_carries-clause-on_error
unfolding sum3_trees
returns-in_err-assert_carries-clause-on_error g c t u v w p ht hu hv hw hp =
    on_failure (front g.AB.AirBuilder.appends g.met.AB.AirBuilder.appends_along (sum2_trees (with_carries t u w) v p) (c.in_err-assert_carries.ensures.on_error t u w ht hu hw).holds)

pub returns-in_err-both-clause-on_error : goal.returns-in_err-both-clause-on_error
unfolding sum3_trees
returns-in_err-both-clause-on_error g c t u v w p ht hu hv hw hp =
    let B = g.met.AB.AirBuilder in
    let G = g.AB.AirBuilder.appends in
    let along = B.appends_along in
    let carries = c.in_ok-assert_carries.ensures.appends t u w ht hu hw in
    on_failure (later G along carries (record { some = none_first G _ _ _ _ c.carried_bits.ensures.appends }))

pub returns-clause-appends : goal.returns-clause-appends
unfolding sum3_trees
returns-clause-appends g c t u v w p ht hu hv hw hp =
    let B = g.met.AB.AirBuilder in
    let G = g.AB.AirBuilder.appends in
    let along = B.appends_along in
    let carries = c.in_ok-assert_carries.ensures.appends t u w ht hu hw in
    let past = B.persists _ _ c.assert_carries.ensures.later in
    let past_both = B.persists _ _ (B.appends_later _ _ _ _ c.carried_bits.ensures.appends) in
    let hb = c.in_ok-both.ensures.represents t u w (represent_later _ _ _ _ past ht) (represent_later _ _ _ _ past hu) (represent_later _ _ _ _ past hw) in
    let hz = represent_later _ _ _ _ past_both (represent_later _ _ _ _ past hv) in
    let hs = represent_later _ _ _ _ past_both (represent_later _ _ _ _ past hp) in
    both G along carries (after_none G along c.carried_bits.ensures.appends (c.in_ok-assert_sum2.ensures.appends (with_carries t u w) v p hb hz hs))

pub returns-in_err-assert_sum2-clause-on_error : goal.returns-in_err-assert_sum2-clause-on_error
unfolding sum3_trees
returns-in_err-assert_sum2-clause-on_error g c t u v w p ht hu hv hw hp =
    let B = g.met.AB.AirBuilder in
    let G = g.AB.AirBuilder.appends in
    let along = B.appends_along in
    let carries = c.in_ok-assert_carries.ensures.appends t u w ht hu hw in
    let past = B.persists _ _ c.assert_carries.ensures.later in
    let past_both = B.persists _ _ (B.appends_later _ _ _ _ c.carried_bits.ensures.appends) in
    let hb = c.in_ok-both.ensures.represents t u w (represent_later _ _ _ _ past ht) (represent_later _ _ _ _ past hu) (represent_later _ _ _ _ past hw) in
    let hz = represent_later _ _ _ _ past_both (represent_later _ _ _ _ past hv) in
    let hs = represent_later _ _ _ _ past_both (represent_later _ _ _ _ past hp) in
    on_failure (later G along carries (some_after_none G along c.carried_bits.ensures.appends (c.in_err-assert_sum2.ensures.on_error (with_carries t u w) v p hb hz hs).holds))
