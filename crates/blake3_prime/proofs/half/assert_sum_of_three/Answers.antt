use Rattle.std.proofs.Common.{[]}
use Rattle.air_core.specs.Laws.Appending.{none_first, some_after}
use Rattle.air_gadgets.specs.Laws.Packing.{represent_later}
use Rattle.air_core.specs.Laws.Appended.{on_failure}
use Rattle.blake3_prime.proofs.half.assert_sum_of_three.Goals as goal

pub returns-in_err-all-clause-on_error : goal.returns-in_err-all-clause-on_error
returns-in_err-all-clause-on_error g c =
    let then = g.met.AB.AirBuilder.appends_along in
    on_failure (record { some = none_first g.AB.AirBuilder.appends _ _ _ _ c.limbs_at.ensures.appends })

pub returns-in_err-first-clause-on_error : goal.returns-in_err-first-clause-on_error
returns-in_err-first-clause-on_error g c =
    let then = g.met.AB.AirBuilder.appends_along in
    on_failure (record { some = none_first g.AB.AirBuilder.appends _ _ _ _ (then _ _ _ [] [] [] [] c.limbs_at.ensures.appends c.limbs_at-2.ensures.appends) })

pub returns-in_err-second-clause-on_error : goal.returns-in_err-second-clause-on_error
returns-in_err-second-clause-on_error g c =
    let then = g.met.AB.AirBuilder.appends_along in
    on_failure (record { some = none_first g.AB.AirBuilder.appends _ _ _ _ (then _ _ _ [] [] [] [] c.limbs_at.ensures.appends (then _ _ _ [] [] [] [] c.limbs_at-2.ensures.appends c.packed_at.ensures.appends)) })

pub returns-in_err-third-clause-on_error : goal.returns-in_err-third-clause-on_error
returns-in_err-third-clause-on_error g c =
    let then = g.met.AB.AirBuilder.appends_along in
    on_failure (record { some = none_first g.AB.AirBuilder.appends _ _ _ _ (then _ _ _ [] [] [] [] c.limbs_at.ensures.appends (then _ _ _ [] [] [] [] c.limbs_at-2.ensures.appends (then _ _ _ [] [] [] [] c.packed_at.ensures.appends c.packed_at-2.ensures.appends))) })

pub returns-clause-appends : goal.returns-clause-appends
returns-clause-appends g c =
    let B = g.met.AB.AirBuilder in
    let then = B.appends_along in
    let h0 = represent_later _ _ _ _ (B.persists _ _ (B.appends_later _ _ _ _ c.packed_at-2.ensures.appends)) (represent_later _ _ _ _ (B.persists _ _ (B.appends_later _ _ _ _ c.packed_at.ensures.appends)) (represent_later _ _ _ _ (B.persists _ _ (B.appends_later _ _ _ _ c.limbs_at-2.ensures.appends)) (c.in_ok-all.ensures.represents))) in
    let h1 = represent_later _ _ _ _ (B.persists _ _ (B.appends_later _ _ _ _ c.packed_at-2.ensures.appends)) (represent_later _ _ _ _ (B.persists _ _ (B.appends_later _ _ _ _ c.packed_at.ensures.appends)) (c.in_ok-first.ensures.represents)) in
    let h2 = represent_later _ _ _ _ (B.persists _ _ (B.appends_later _ _ _ _ c.packed_at-2.ensures.appends)) (c.in_ok-second.ensures.represents) in
    let h3 = c.in_ok-third.ensures.represents in
    record { all = then _ _ _ [] _ [] [] c.limbs_at.ensures.appends (then _ _ _ [] _ [] [] c.limbs_at-2.ensures.appends (then _ _ _ [] _ [] [] c.packed_at.ensures.appends (then _ _ _ [] _ [] [] c.packed_at-2.ensures.appends (c.in_ok-add3.ensures.appends _ _ _ _ h0 h1 h2 h3)))) }

pub returns-in_err-add3-clause-on_error : goal.returns-in_err-add3-clause-on_error
returns-in_err-add3-clause-on_error g c =
    let B = g.met.AB.AirBuilder in
    let then = B.appends_along in
    let h0 = represent_later _ _ _ _ (B.persists _ _ (B.appends_later _ _ _ _ c.packed_at-2.ensures.appends)) (represent_later _ _ _ _ (B.persists _ _ (B.appends_later _ _ _ _ c.packed_at.ensures.appends)) (represent_later _ _ _ _ (B.persists _ _ (B.appends_later _ _ _ _ c.limbs_at-2.ensures.appends)) (c.in_ok-all.ensures.represents))) in
    let h1 = represent_later _ _ _ _ (B.persists _ _ (B.appends_later _ _ _ _ c.packed_at-2.ensures.appends)) (represent_later _ _ _ _ (B.persists _ _ (B.appends_later _ _ _ _ c.packed_at.ensures.appends)) (c.in_ok-first.ensures.represents)) in
    let h2 = represent_later _ _ _ _ (B.persists _ _ (B.appends_later _ _ _ _ c.packed_at-2.ensures.appends)) (c.in_ok-second.ensures.represents) in
    let h3 = c.in_ok-third.ensures.represents in
    on_failure (record { some = some_after then _ _ _ [] _ [] [] (then _ _ _ [] [] [] [] c.limbs_at.ensures.appends (then _ _ _ [] [] [] [] c.limbs_at-2.ensures.appends (then _ _ _ [] [] [] [] c.packed_at.ensures.appends (c.packed_at-2.ensures.appends)))) (c.in_err-add3.ensures.on_error _ _ _ _ h0 h1 h2 h3) })
