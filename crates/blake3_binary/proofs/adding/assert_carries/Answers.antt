use Rattle.std.proofs.Common.{[], ◌∷◌, rules}
use Rattle.air_core.specs.Appended.{Appended}
use Rattle.air_core.specs.Tree.{sum, product}
use Rattle.air_core.specs.Laws.Appending.{none_first}
use Rattle.air_gadgets.specs.Laws.Packing.{represent_later}
use Rattle.air_core.specs.Laws.Appended.{both, later, on_failure}
use Rattle.blake3_binary.specs.Sums.{carries_trees}
use Rattle.blake3_binary.proofs.adding.assert_carries.Goals as goal

pub returns-in_err-assert_first_carry-clause-on_error : goal.returns-in_err-assert_first_carry-clause-on_error
returns-in_err-assert_first_carry-clause-on_error g c t u v ht hu hv =
    on_failure (record { some = none_first g.AB.AirBuilder.appends _ _ _ _ c.in_err-assert_first_carry.ensures.on_error })

pub returns-clause-appends : goal.returns-clause-appends
unfolding carries_trees
returns-clause-appends g c t u v ht hu hv =
    let B = g.met.AB.AirBuilder in
    let G = g.AB.AirBuilder.appends in
    let hx = ht.each 0 c.index-x-0.result (search rules) in
    let hy = hu.each 0 c.index-y-0.result (search rules) in
    let hk = hv.each 0 c.index-k-0.result (search rules) in
    let zero = c.in_ok-assert_first_carry.ensures.appends _ _ _ hx hy hk in
    let first : Appended G _ _ (sum (product (t 0) (u 0)) (v 0) ∷ []) = record { all = zero } in
    let past = B.persists _ _ (B.appends_later _ _ _ _ zero) in
    both G B.appends_along first
    (c.in_ok-assert_later_carries.ensures.appends t u v (represent_later _ _ _ _ past ht) (represent_later _ _ _ _ past hu) (represent_later _ _ _ _ past hv))

pub returns-in_err-assert_later_carries-clause-on_error : goal.returns-in_err-assert_later_carries-clause-on_error
unfolding carries_trees
returns-in_err-assert_later_carries-clause-on_error g c t u v ht hu hv =
    let B = g.met.AB.AirBuilder in
    let G = g.AB.AirBuilder.appends in
    let hx = ht.each 0 c.index-x-0.result (search rules) in
    let hy = hu.each 0 c.index-y-0.result (search rules) in
    let hk = hv.each 0 c.index-k-0.result (search rules) in
    let zero = c.in_ok-assert_first_carry.ensures.appends _ _ _ hx hy hk in
    let first : Appended G _ _ (sum (product (t 0) (u 0)) (v 0) ∷ []) = record { all = zero } in
    let past = B.persists _ _ (B.appends_later _ _ _ _ zero) in
    on_failure (later G B.appends_along first
    (c.in_err-assert_later_carries.ensures.on_error t u v (represent_later _ _ _ _ past ht) (represent_later _ _ _ _ past hu) (represent_later _ _ _ _ past hv)).holds)
