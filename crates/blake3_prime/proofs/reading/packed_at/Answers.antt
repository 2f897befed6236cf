use Rattle.std.proofs.Common.{◌≡◌, ℕ, ◌+◌, ◌≤◌, [], length, subst, rules, arith}
use Rattle.air_core.specs.Tree.{Tree}
use Rattle.blake3_prime.specs.Trees.{from_column, packed_limbs}
use Rattle.air_gadgets.specs.Laws.Packing.{packed_low, packed_high, represent_later, stand_take, stand_tail, stand_pair}
use Rattle.blake3_prime.proofs.reading.packed_at.Goals as goal

pub returns-in_err-low-clause-appends : goal.returns-in_err-low-clause-appends
returns-in_err-low-clause-appends g c = g.met.AB.AirBuilder.appends_along _ _ _ [] _ [] [] c.bits_at.ensures.appends c.pack_bits_le.ensures.appends

pub returns-in_err-high-clause-appends : goal.returns-in_err-high-clause-appends
returns-in_err-high-clause-appends g c =
    let then = g.met.AB.AirBuilder.appends_along in
    then _ _ _ [] _ [] [] c.bits_at.ensures.appends (then _ _ _ [] _ [] [] c.pack_bits_le.ensures.appends c.pack_bits_le-2.ensures.appends)

pub returns-clause-appends : goal.returns-clause-appends
returns-clause-appends g c =
    let then = g.met.AB.AirBuilder.appends_along in
    then _ _ _ [] _ [] [] c.bits_at.ensures.appends (then _ _ _ [] _ [] [] c.pack_bits_le.ensures.appends c.pack_bits_le-2.ensures.appends)

pub returns-clause-represents : goal.returns-clause-represents
returns-clause-represents g c =
    let B = g.met.AB.AirBuilder in
    let r = g.AB.F.RingCore.ring in
    let f : ℕ → Tree g.row.AB-F.Denot = from_column c.args.column in
    let es = c.in_ok-bits.bits in
    let wide : length es ≡ 32 = search rules in
    let half : 16 ≤ length es = omega arith in
    let past_low = B.persists _ _ (B.appends_later _ _ _ _ c.pack_bits_le.ensures.appends) in
    let past_high = B.persists _ _ (B.appends_later _ _ _ _ c.pack_bits_le-2.ensures.appends) in
    let hs = c.in_ok-bits.ensures.represents in
    let low = past_high _ _ (c.in_ok-low.ensures.represents f (stand_take _ _ f hs 16 half)) in
    let high = c.in_ok-high.ensures.represents (λ i. f (16 + i)) (stand_tail _ _ f (represent_later _ _ _ f past_low hs) 16) in
    let P = g.AB.AirBuilder.represents c.pack_bits_le-2.new.builder in
    record {
      each = stand_pair P c.in_ok-low.low c.in_ok-high.high (packed_limbs r f)
          (subst (λ (w : Tree g.row.AB-F.Denot). P c.in_ok-low.low w) (packed_low r f es wide) low)
          (subst (λ (w : Tree g.row.AB-F.Denot). P c.in_ok-high.high w) (packed_high r f es wide) high);
    }
