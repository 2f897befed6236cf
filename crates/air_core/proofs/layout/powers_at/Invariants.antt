use Rattle.std.proofs.Common.{◌≡◌, take}
use Rattle.air_core.specs.Layout.{folding_powers}
use Rattle.air_core.proofs.layout.powers_at.Given as goal

abbrev pub invariant-loop-place : goal.invariant-loop-place
invariant-loop-place g l = l.powers.items ≡ folding_powers g.EF.RingCore.ring l.alpha l.total (take l.place-index l.places)
