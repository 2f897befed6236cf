use Rattle.std.proofs.Common.{◌≡◌, ◌+◌, ◌<◌, List, [], ◌∷◌, length, map, drop, get_or, ◌∙◌, ap, arith}
use Rattle.p3_lookup.specs.Messages.{Message}
use Rattle.stark_balance.specs.Nets.{key}
use Rattle.stark_balance.proofs.Turns.{dropped, moved}
use Rattle.stark_balance.proofs.counts.key_of.Goals as goal

pub loop-i-preserved : goal.loop-i-preserved
loop-i-preserved g c =
    let canonical = g.F.PrimeCore64.canonical in
    let m = c.args.message.now in
    let i = c.loop-i.i in
    let x = c.index.result.now in
    let tuple : c.message.inside.tuple.items ≡ m.tuple = ap (λ (w : Message g.row.F.Denot). w.tuple) c.message.view_is in
    let within : i < length m.tuple = omega (arith, ap length tuple) in
    let is : x ≡ get_or m.tuple i x = c.index.ensures ∙ ap (λ (l : List g.row.F.Denot). get_or l i x) tuple in
    moved c.loop-i.numbers.items (drop i (map canonical m.tuple)) (key canonical m) (drop (i + 1) (map canonical m.tuple)) (canonical x ∷ []) c.push-in-loop-i.new.self.items
    c.loop-i.invariant (dropped canonical m.tuple i x within is)
    (cc (c.in_ok-push-2.ensures.items, c.as_canonical_u64.ensures))
