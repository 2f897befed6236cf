use Rattle.std.proofs.Common.{◌≡◌, take}
use Rattle.p3_field.specs.Poly.{tabulate}
use Rattle.example_air.specs.Bytes.{byte_times}
use Rattle.example_air.proofs.traces.times_of.Given as goal

abbrev pub invariant-loop-byte : goal.invariant-loop-byte
invariant-loop-byte l = l.counts ≡ tabulate 256 (byte_times (take l.byte-index l.bytes))
