use Rattle.std.proofs.Common.{[]}
use Rattle.air_gadgets.specs.Laws.Packing.{represent_later}
use Rattle.blake3_binary.proofs.words.turned_at.Goals as goal

pub returns-in_err-y-clause-appends : goal.returns-in_err-y-clause-appends
returns-in_err-y-clause-appends g c = g.met.AB.AirBuilder.appends_along _ _ _ [] _ [] [] c.bits_at.ensures.appends c.bits_at-2.ensures.appends

pub returns-in_err-bits-clause-appends : goal.returns-in_err-bits-clause-appends
returns-in_err-bits-clause-appends g c =
    let then = g.met.AB.AirBuilder.appends_along in
    then _ _ _ [] _ [] [] c.bits_at.ensures.appends (then _ _ _ [] _ [] [] c.bits_at-2.ensures.appends c.turned_bits.ensures.appends)

pub returns-clause-appends : goal.returns-clause-appends
returns-clause-appends g c =
    let then = g.met.AB.AirBuilder.appends_along in
    then _ _ _ [] _ [] [] c.bits_at.ensures.appends (then _ _ _ [] _ [] [] c.bits_at-2.ensures.appends c.turned_bits.ensures.appends)

pub returns-clause-represents : goal.returns-clause-represents
returns-clause-represents g c =
    let B = g.met.AB.AirBuilder in
    c.in_ok-bits.ensures.represents _ _ (represent_later _ _ _ _ (B.persists _ _ (B.appends_later _ _ _ _ c.bits_at-2.ensures.appends)) c.in_ok-x.ensures.represents) c.in_ok-y.ensures.represents
