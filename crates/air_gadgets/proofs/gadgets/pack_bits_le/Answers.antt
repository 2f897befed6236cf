use Rattle.std.proofs.Common.{◌≡◌, ◌-◌, ◌<◌, suc, [], length, subst, ◌∙◌, arith}
use Rattle.air_core.specs.Tree.{Tree}
use Rattle.air_gadgets.specs.Laws.Packing.{packed_turn, packed_none, stand_item}
use Rattle.air_gadgets.proofs.gadgets.pack_bits_le.Goals as goal

pub loop-i-init : goal.loop-i-init
loop-i-init g c =
    let B = g.met.AB.AirBuilder in
    let r = g.AB.F.RingCore.ring in
    let n = length c.args.bits.now in
    let none : n - n ≡ 0 = omega arith in
    record {
      keeps_shape = c.constant-2.ensures.keeps_shape ∙ c.constant.ensures.keeps_shape;
      appends = B.appends_along _ _ _ [] _ [] [] c.constant.ensures.appends c.constant-2.ensures.appends;
      two = B.persists _ _ (B.appends_later _ _ _ _ c.constant-2.ensures.appends) _ _ (rw c.from_u64.ensures at c.in_ok-two.ensures.represents);
      so_far = λ t h. subst (λ (u : Tree g.row.AB-F.Denot). g.AB.AirBuilder.represents c.constant-2.new.self c.in_ok-sum.sum u)
          (packed_none r t n (n - n) none) (rw c.from_u64-2.ensures at c.in_ok-sum.ensures.represents);
    }

pub loop-i-preserved : goal.loop-i-preserved
loop-i-preserved g c =
    let B = g.met.AB.AirBuilder in
    let r = g.AB.F.RingCore.ring in
    let n = length c.args.bits.now in
    let i = c.loop-i.i - 1 in
    let next : c.loop-i.i ≡ suc i = omega arith in
    let rest : n - i ≡ suc (n - c.loop-i.i) = omega arith in
    let within : i < n = omega arith in
    let past = B.persists _ _ (B.appends_later _ _ _ _ c.mul.ensures.appends) in
    let both = B.appends_along _ _ _ [] _ [] [] c.mul.ensures.appends c.add.ensures.appends in
    record {
      keeps_shape = c.add.ensures.keeps_shape ∙ c.mul.ensures.keeps_shape ∙ c.loop-i.invariant.keeps_shape;
      appends = B.appends_along _ _ _ [] _ [] [] c.loop-i.invariant.appends both;
      two = B.persists _ _ (B.appends_later _ _ _ _ both) _ _ c.loop-i.invariant.two;
      so_far = λ t h.
          let twice = c.in_ok-twice.ensures.represents _ _ c.loop-i.invariant.two (c.loop-i.invariant.so_far t h) in
          let bit = past _ _ (B.persists _ _ (B.appends_later _ _ _ _ c.loop-i.invariant.appends) _ _ (stand_item _ _ _ h i c.index-bits-i.result within c.index-bits-i.is)) in
          subst (λ (u : Tree g.row.AB-F.Denot). g.AB.AirBuilder.represents c.add.new.self c.in_ok-sum-2.sum u)
          (packed_turn r t i c.loop-i.i (n - c.loop-i.i) (n - i) next rest)
          (c.in_ok-sum-2.ensures.represents _ _ bit twice);
    }

pub returns-in_err-sum-clause-appends : goal.returns-in_err-sum-clause-appends
returns-in_err-sum-clause-appends g c = g.met.AB.AirBuilder.appends_along _ _ _ [] _ [] [] c.constant.ensures.appends c.constant-2.ensures.appends

pub returns-in_err-twice-clause-appends : goal.returns-in_err-twice-clause-appends
returns-in_err-twice-clause-appends g c = g.met.AB.AirBuilder.appends_along _ _ _ [] _ [] [] c.loop-i.invariant.appends c.mul.ensures.appends

pub returns-in_err-sum-2-clause-appends : goal.returns-in_err-sum-2-clause-appends
returns-in_err-sum-2-clause-appends g c =
    let then = g.met.AB.AirBuilder.appends_along in
    then _ _ _ [] _ [] [] c.loop-i.invariant.appends (then _ _ _ [] _ [] [] c.mul.ensures.appends c.add.ensures.appends)
