use Rattle.std.proofs.Common.{[], ◌∷◌, rules}
use Rattle.air_core.specs.Appended.{Appended}
use Rattle.air_core.specs.Laws.Appending.{none_first}
use Rattle.air_gadgets.specs.Laws.Packing.{represent_later}
use Rattle.air_core.specs.Laws.Appended.{both, later, after_none, some_after_none, on_failure}
use Rattle.blake3_binary.specs.Sums.{carry_in, sum2_trees}
use Rattle.blake3_binary.proofs.adding.assert_sum2.Goals as goal

pub returns-in_err-carries-clause-on_error : goal.returns-in_err-carries-clause-on_error
returns-in_err-carries-clause-on_error g c t u v ht hu hv =
    on_failure (record { some = none_first g.AB.AirBuilder.appends _ _ _ _ c.carries_in.ensures.appends })

pub returns-in_err-assert_zero-clause-on_error : goal.returns-in_err-assert_zero-clause-on_error
returns-in_err-assert_zero-clause-on_error g c t u v ht hu hv =
    on_failure (record { some = none_first g.AB.AirBuilder.appends _ _ _ _ (g.met.AB.AirBuilder.appends_along _ _ _ [] [] [] [] c.carries_in.ensures.appends c.in_err-assert_zero.ensures.on_error) })

pub returns-clause-appends : goal.returns-clause-appends
unfolding sum2_trees
returns-clause-appends g c t u v ht hu hv =
    let B = g.met.AB.AirBuilder in
    let G = g.AB.AirBuilder.appends in
    let along = B.appends_along in
    let hc = c.in_ok-carries.ensures.represents t u v ht hu hv in
    let zero = c.in_ok-assert_zero.ensures.appends _ (hc.each 0 c.index-carries-0.result (search rules)) in
    let first : Appended G _ _ (carry_in t u v 0 ∷ []) = record { all = zero } in
    let past = B.persists _ _ (B.appends_later _ _ _ _ c.carries_in.ensures.appends) in
    let past_zero = B.persists _ _ (B.appends_later _ _ _ _ zero) in
    let hx = represent_later _ _ _ _ past_zero (represent_later _ _ _ _ past ht) in
    let hy = represent_later _ _ _ _ past_zero (represent_later _ _ _ _ past hu) in
    after_none G along c.carries_in.ensures.appends
    (both G along first (c.in_ok-assert_carries_in.ensures.appends t u (carry_in t u v) hx hy (represent_later _ _ _ _ past_zero hc)))

pub returns-in_err-assert_carries_in-clause-on_error : goal.returns-in_err-assert_carries_in-clause-on_error
unfolding sum2_trees
returns-in_err-assert_carries_in-clause-on_error g c t u v ht hu hv =
    let B = g.met.AB.AirBuilder in
    let G = g.AB.AirBuilder.appends in
    let along = B.appends_along in
    let hc = c.in_ok-carries.ensures.represents t u v ht hu hv in
    let zero = c.in_ok-assert_zero.ensures.appends _ (hc.each 0 c.index-carries-0.result (search rules)) in
    let first : Appended G _ _ (carry_in t u v 0 ∷ []) = record { all = zero } in
    let past = B.persists _ _ (B.appends_later _ _ _ _ c.carries_in.ensures.appends) in
    let past_zero = B.persists _ _ (B.appends_later _ _ _ _ zero) in
    let hx = represent_later _ _ _ _ past_zero (represent_later _ _ _ _ past ht) in
    let hy = represent_later _ _ _ _ past_zero (represent_later _ _ _ _ past hu) in
    on_failure (some_after_none G along c.carries_in.ensures.appends
    (later G along first (c.in_err-assert_carries_in.ensures.on_error t u (carry_in t u v) hx hy (represent_later _ _ _ _ past_zero hc)).holds))
