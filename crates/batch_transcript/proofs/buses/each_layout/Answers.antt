use Rattle.std.proofs.Common.{◌+◌, ◌-◌, ◌<◌, length, map, drop, ap, sym, subst, arith}
use Rattle.std.specs.Prelude.{All}
use Rattle.std.proofs.lemmas.List.Elements.{All-take, All-drop}
use Rattle.p3_field.specs.Laws.Tabulate.{length-tabulate}
use Rattle.p3_lookup.specs.Bus.{batch_buses, bus_number}
use Rattle.p3_lookup.specs.Written.{read_all}
use Rattle.batch_transcript.proofs.Laid.{numbers-below, next-start, own-within, one-laid}
use Rattle.batch_transcript.proofs.buses.each_layout.Goals as goal

pub overflow_add-end : goal.overflow_add-end
overflow_add-end g c =
    let ws = c.args.lookups.now in
    let bs = batch_buses (map read_all ws) in
    let le = own-within ws c.loop-instance.instance-index c.instance-item.result c.as_slice.result.now c.loop-instance-test.true c.instance-item.is c.as_slice.ensures c.loop-instance.start c.loop-instance.invariant.start in
    omega (arith, le, ap length c.requires.numbers, length-tabulate (length bs) (bus_number bs))

pub offset_bounds-numbers-start : goal.offset_bounds-numbers-start
offset_bounds-numbers-start g c =
    let ws = c.args.lookups.now in
    let bs = batch_buses (map read_all ws) in
    let le = own-within ws c.loop-instance.instance-index c.instance-item.result c.as_slice.result.now c.loop-instance-test.true c.instance-item.is c.as_slice.ensures c.loop-instance.start c.loop-instance.invariant.start in
    omega (arith, le, ap length c.requires.numbers, length-tabulate (length bs) (bus_number bs))

pub slice_bounds-challenges_on-end : goal.slice_bounds-challenges_on-end
slice_bounds-challenges_on-end g c =
    let ws = c.args.lookups.now in
    let bs = batch_buses (map read_all ws) in
    let le = own-within ws c.loop-instance.instance-index c.instance-item.result c.as_slice.result.now c.loop-instance-test.true c.instance-item.is c.as_slice.ensures c.loop-instance.start c.loop-instance.invariant.start in
    omega (arith, le, ap length c.requires.numbers, length-tabulate (length bs) (bus_number bs))

pub challenges_on-requires : goal.challenges_on-requires
challenges_on-requires g c =
    let tables = map read_all c.args.lookups.now in
    let n = length c.args.challenges.now.bus_prefix in
    let numbers = c.args.numbers.now in
    let start = c.loop-instance.start in
    let all : All (λ b. b < n) numbers = subst (λ k. All (λ b. b < k) numbers) (sym c.requires.bases) (numbers-below tables numbers c.requires.numbers) in
    All-take (λ b. b < n) (start + length c.as_slice.result.now - start) (drop start numbers) (All-drop (λ b. b < n) start numbers all)

pub loop-instance-preserved : goal.loop-instance-preserved
loop-instance-preserved g c =
    let ws = c.args.lookups.now in
    let i = c.loop-instance.instance-index in
    let start = c.loop-instance.start in
    record {
      start = next-start ws i c.instance-item.result c.as_slice.result.now c.loop-instance-test.true c.instance-item.is c.as_slice.ensures start c.loop-instance.invariant.start;
      all = one-laid ws i c.instance-item.result c.as_slice.result.now c.loop-instance-test.true c.instance-item.is c.as_slice.ensures
          g.EF.RingCore.ring c.args.challenges.now c.args.numbers.now start c.loop-instance.all.items c.push.new.self.items c.in_ok-challenges_on.field-0
          c.requires.numbers c.loop-instance.invariant.start c.loop-instance.invariant.all c.in_ok-push.ensures.items c.in_ok-challenges_on.ensures;
    }
