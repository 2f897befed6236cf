use Rattle.std.proofs.Common.{◌≡◌, map, take}
use Rattle.air_core.specs.Recording.{place_or_zero}
use Rattle.air_core.proofs.recorder.known_all.Given as goal

abbrev pub invariant-loop-x : goal.invariant-loop-x
invariant-loop-x l = l.places.items ≡ map (place_or_zero l.count) (take l.x-index l.xs)
