use Rattle.std.proofs.Common.{[]}
use Rattle.air_core.specs.Laws.Appending.{none_first, some_after}
use Rattle.air_gadgets.specs.Laws.Packing.{represent_later}
use Rattle.air_core.specs.Laws.Appended.{on_failure}
use Rattle.blake3_prime.proofs.half.assert_turned.Goals as goal

pub returns-in_err-limbs-clause-on_error : goal.returns-in_err-limbs-clause-on_error
returns-in_err-limbs-clause-on_error g c =
    let then = g.met.AB.AirBuilder.appends_along in
    on_failure (record { some = none_first g.AB.AirBuilder.appends _ _ _ _ c.limbs_at.ensures.appends })

pub returns-in_err-bits-clause-on_error : goal.returns-in_err-bits-clause-on_error
returns-in_err-bits-clause-on_error g c =
    let then = g.met.AB.AirBuilder.appends_along in
    on_failure (record { some = none_first g.AB.AirBuilder.appends _ _ _ _ (then _ _ _ [] [] [] [] c.limbs_at.ensures.appends c.bits_at.ensures.appends) })

pub returns-in_err-others-clause-on_error : goal.returns-in_err-others-clause-on_error
returns-in_err-others-clause-on_error g c =
    let then = g.met.AB.AirBuilder.appends_along in
    on_failure (record { some = none_first g.AB.AirBuilder.appends _ _ _ _ (then _ _ _ [] [] [] [] c.limbs_at.ensures.appends (then _ _ _ [] [] [] [] c.bits_at.ensures.appends c.bits_at-2.ensures.appends)) })

pub returns-clause-appends : goal.returns-clause-appends
returns-clause-appends g c =
    let B = g.met.AB.AirBuilder in
    let then = B.appends_along in
    let h0 = represent_later _ _ _ _ (B.persists _ _ (B.appends_later _ _ _ _ c.bits_at-2.ensures.appends)) (represent_later _ _ _ _ (B.persists _ _ (B.appends_later _ _ _ _ c.bits_at.ensures.appends)) (c.in_ok-limbs.ensures.represents)) in
    let h1 = represent_later _ _ _ _ (B.persists _ _ (B.appends_later _ _ _ _ c.bits_at-2.ensures.appends)) (c.in_ok-bits.ensures.represents) in
    let h2 = c.in_ok-others.ensures.represents in
    record { all = then _ _ _ [] _ [] [] c.limbs_at.ensures.appends (then _ _ _ [] _ [] [] c.bits_at.ensures.appends (then _ _ _ [] _ [] [] c.bits_at-2.ensures.appends (c.in_ok-xor_32_shift.ensures.appends _ _ _ h0 h1 h2))) }

pub returns-in_err-xor_32_shift-clause-on_error : goal.returns-in_err-xor_32_shift-clause-on_error
returns-in_err-xor_32_shift-clause-on_error g c =
    let B = g.met.AB.AirBuilder in
    let then = B.appends_along in
    let h0 = represent_later _ _ _ _ (B.persists _ _ (B.appends_later _ _ _ _ c.bits_at-2.ensures.appends)) (represent_later _ _ _ _ (B.persists _ _ (B.appends_later _ _ _ _ c.bits_at.ensures.appends)) (c.in_ok-limbs.ensures.represents)) in
    let h1 = represent_later _ _ _ _ (B.persists _ _ (B.appends_later _ _ _ _ c.bits_at-2.ensures.appends)) (c.in_ok-bits.ensures.represents) in
    let h2 = c.in_ok-others.ensures.represents in
    on_failure (record { some = some_after then _ _ _ [] _ [] [] (then _ _ _ [] [] [] [] c.limbs_at.ensures.appends (then _ _ _ [] [] [] [] c.bits_at.ensures.appends (c.bits_at-2.ensures.appends))) (c.in_err-xor_32_shift.ensures.on_error _ _ _ h0 h1 h2) })
