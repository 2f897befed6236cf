use Rattle.std.proofs.Common.{◌≡◌, map, take}
use Rattle.std.specs.List.{fold}
use Rattle.p3_field.specs.Ring.{of_nat}
use Rattle.p3_challenger.proofs.observe_bytes.Given as goal

abbrev pub invariant-loop-byte : goal.invariant-loop-byte
invariant-loop-byte g l = l.challenger ≡ fold g.C.CanObserve.observed l.initial.challenger (map (of_nat g.F.RingCore.ring) (take l.byte-index l.bytes))
