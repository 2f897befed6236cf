use Rattle.std.proofs.Common.{◌≡◌, take}
use Rattle.air_core.specs.Recording.{indices_from}
use Rattle.air_core.proofs.recorder.read.indices.Given as goal

abbrev pub invariant-loop-place : goal.invariant-loop-place
invariant-loop-place l = l.indices.items ≡ indices_from l.in_extension 0 (take l.place l.asserted)
