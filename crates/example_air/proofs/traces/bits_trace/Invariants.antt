use Rattle.std.proofs.Common.{◌≡◌, take}
use Rattle.std.specs.List.{flat_map}
use Rattle.p3_field.specs.BabyBear.{baby_bear_ring}
use Rattle.example_air.specs.Bytes.{bits_row}
use Rattle.example_air.proofs.traces.bits_trace.Given as goal

abbrev pub invariant-loop-byte : goal.invariant-loop-byte
invariant-loop-byte l = l.values.items ≡ flat_map (bits_row baby_bear_ring) (take l.byte-index l.bytes)
