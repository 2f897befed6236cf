use Rattle.std.proofs.Common.{◌≡◌, ℕ, suc, ◌+◌, ◌<◌, ◌++◌, length, map, drop, get_or, ◌∙◌, ap, arith}
use Rattle.air_core.specs.RowCheck.{row_shape}
use Rattle.p3_lookup.specs.Lookup.{IsLookup, sent}
use Rattle.p3_lookup.specs.Messages.{message, messages_from}
use Rattle.p3_lookup.specs.Written.{read, read_all}
use Rattle.stark_balance.specs.Sender.{sent_in_row}
use Rattle.stark_balance.proofs.Turns.{at_item, dropped, moved}
use Rattle.stark_balance.proofs.messages.push_lookups.Goals as goal

pub push_lookup-requires : goal.push_lookup-requires
push_lookup-requires g c =
    let within : c.loop-i.i < length c.args.lookups.now = omega arith in
    record { lookup = at_item (IsLookup (row_shape c.args.row.now)) read c.args.lookups.now c.loop-i.i c.index-lookups-i.result within c.index-lookups-i.is c.requires.lookups }

pub loop-i-preserved : goal.loop-i-preserved
loop-i-preserved g c =
    let v = sent_in_row g.F.RingCore.ring c.args.row.now in
    let bus : ℕ → ℕ = λ n. get_or c.args.buses.now n 0 in
    let ws = c.args.lookups.now in
    let i = c.loop-i.i in
    let x = c.index-lookups-i.result in
    let within : i < length ws = omega arith in
    let one : suc i ≡ i + 1 = omega arith in
    let rest : messages_from v bus i (drop i (read_all ws)) ≡ map (message v (bus i)) (sent (read x)) ++ messages_from v bus (i + 1) (drop (i + 1) (read_all ws)) =
    ap (messages_from v bus i) (dropped read ws i x within c.index-lookups-i.is)
    ∙ ap (λ n. map (message v (bus i)) (sent (read x)) ++ messages_from v bus n (drop (i + 1) (read_all ws))) one in
    moved c.loop-i.messages.items (messages_from v bus i (drop i (read_all ws))) (c.args.messages.now.items ++ messages_from v bus 0 (read_all ws))
    (messages_from v bus (i + 1) (drop (i + 1) (read_all ws))) (map (message v (bus i)) (sent (read x))) c.push_lookup.new.messages.items
    c.loop-i.invariant rest c.in_ok-push_lookup.ensures
