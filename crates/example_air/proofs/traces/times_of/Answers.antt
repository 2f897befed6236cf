use Rattle.std.proofs.Common.{◌<◌, get_or, refl, rules, arith, ◌∙◌, ap}
use Rattle.std.proofs.lemmas.List.{take_all}
use Rattle.p3_field.specs.Poly.{tabulate}
use Rattle.example_air.specs.Bytes.{byte_times}
use Rattle.example_air.proofs.Pushed.{times-few, times-more}
use Rattle.example_air.proofs.traces.times_of.Goals as goal

pub overflow_add-counts : goal.overflow_add-counts
overflow_add-counts c =
    let small : get_or c.args.bytes.now c.loop-byte.byte-index 0 < 256 = search rules in
    let few = times-few c.args.bytes.now c.loop-byte.counts c.loop-byte.byte-index (get_or c.args.bytes.now c.loop-byte.byte-index 0) 1024 small c.loop-byte.auto.byte-index-end c.requires c.loop-byte.invariant in
    omega (arith, few)

pub loop-byte-preserved : goal.loop-byte-preserved
loop-byte-preserved c =
    let small : get_or c.args.bytes.now c.loop-byte.byte-index 0 < 256 = search rules in
    times-more c.args.bytes.now c.loop-byte.counts c.loop-byte.byte-index _ c.loop-byte-test.true refl small c.loop-byte.invariant

pub returns : goal.returns
returns c = c.loop-byte.invariant ∙ ap (λ l. tabulate 256 (byte_times l)) (take_all c.loop-byte.byte-index c.args.bytes.now c.loop-byte-test.false)
