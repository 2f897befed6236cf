use Rattle.std.proofs.Common.{◌+◌, ◌<◌, [], ◌∷◌, length, map, drop, arith}
use Rattle.air_core.specs.RowCheck.{row_shape}
use Rattle.air_core.specs.Shape.{ReadsSendable}
use Rattle.air_core.specs.Symbolic.{tree_of}
use Rattle.stark_balance.specs.Sender.{sent_in_row}
use Rattle.stark_balance.proofs.Turns.{at_item, dropped_twice, moved}
use Rattle.stark_balance.proofs.messages.values_of.Goals as goal

pub sent_value-requires : goal.sent_value-requires
sent_value-requires g c =
    let within : c.loop-i.i < length c.args.tuple.now = omega arith in
    record { reads = at_item (ReadsSendable (row_shape c.args.row.now)) tree_of c.args.tuple.now c.loop-i.i c.index-tuple-i.result within c.index-tuple-i.is c.requires.reads }

pub loop-i-preserved : goal.loop-i-preserved
loop-i-preserved g c =
    let v = sent_in_row g.F.RingCore.ring c.args.row.now in
    let xs = c.args.tuple.now in
    let i = c.loop-i.i in
    let x = c.index-tuple-i.result in
    let within : i < length xs = omega arith in
    let all = map v (map tree_of xs) in
    moved c.loop-i.values.items (drop i all) all (drop (i + 1) all) (v (tree_of x) ∷ []) c.push.new.self.items
    c.loop-i.invariant (dropped_twice v tree_of xs i x within c.index-tuple-i.is)
    (cc (c.in_ok-push.ensures.items, c.sent_value.ensures))
