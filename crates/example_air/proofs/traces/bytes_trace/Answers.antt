use Rattle.std.proofs.Common.{◌≡◌, ◌∙◌, ap, arith, get_or, List}
use Rattle.p3_field.specs.BabyBear.{baby_bear_ring}
use Rattle.p3_field.specs.Poly.{tabulate}
use Rattle.p3_field.specs.Ring.{of_nat}
use Rattle.p3_field.specs.declared.baby_bear.BabyBear.{BabyBear}
use Rattle.p3_field.specs.Laws.Tabulate.{get_or-tabulate, tabulate_push, tabulate_same}
use Rattle.example_air.specs.Bytes.{bytes_rows, byte_times}
use Rattle.example_air.proofs.traces.bytes_trace.Goals as goal

pub loop-byte-preserved : goal.loop-byte-preserved
loop-byte-preserved c = c.in_ok-push.ensures.items ∙ tabulate_push c.loop-byte.byte _ _ _ c.loop-byte.invariant c.from_u64.ensures

pub returns : goal.returns
unfolding bytes_rows
returns c =
    let counts = c.times_of-counts.result in
    let end : c.loop-byte.byte ≡ 256 = omega arith in
    let cells : c.loop-byte.values.items ≡ tabulate 256 (λ byte. of_nat baby_bear_ring (byte_times c.args.bytes.now byte)) =
    c.loop-byte.invariant
    ∙ (ap (λ n. tabulate n (λ byte. of_nat baby_bear_ring (get_or counts byte 0))) end
    ∙ tabulate_same 256 (λ byte. of_nat baby_bear_ring (get_or counts byte 0)) (λ byte. of_nat baby_bear_ring (byte_times c.args.bytes.now byte)) (λ i h.
    ap (of_nat baby_bear_ring) (ap (λ l. get_or l i 0) c.times_of-counts.ensures ∙ get_or-tabulate 256 (byte_times c.args.bytes.now) i 0 h))) in
    c.new_col.ensures ∙ ap (λ (v : List BabyBear). record { values = v; width = 1 }) cells
