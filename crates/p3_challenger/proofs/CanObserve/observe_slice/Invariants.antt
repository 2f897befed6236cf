use Rattle.std.proofs.Common.{◌≡◌, take}
use Rattle.std.specs.List.{fold}
use Rattle.p3_challenger.proofs.CanObserve.observe_slice.Given as goal

abbrev pub invariant-loop-value : goal.invariant-loop-value
invariant-loop-value g l = l.self ≡ fold g.Self.CanObserve.observed l.initial.self (take l.value-index l.values)
