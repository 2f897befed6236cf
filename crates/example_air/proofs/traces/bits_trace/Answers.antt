use Rattle.std.proofs.Common.{refl, take}
use Rattle.p3_field.specs.BabyBear.{baby_bear_ring}
use Rattle.example_air.specs.Bytes.{bits_row}
use Rattle.example_air.proofs.Pushed.{rows-fill, rows-more}
use Rattle.example_air.proofs.traces.bits_trace.Goals as goal

pub loop-byte-preserved : goal.loop-byte-preserved
loop-byte-preserved c = rows-more (bits_row baby_bear_ring) c.args.bytes.now c.loop-byte.byte-index _ 0 _ _ c.loop-byte-test.true refl c.loop-byte.invariant c.in_ok-push_row.ensures

pub new-requires : goal.new-requires
new-requires c = rows-fill baby_bear_ring (take c.loop-byte.byte-index c.args.bytes.now) _ c.loop-byte.invariant
