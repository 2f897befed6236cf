use Rattle.std.proofs.Common.{◌≡◌, take}
use Rattle.batch_setup.specs.Setup.{airs_of}
use Rattle.batch_setup.proofs.instance.lent_airs.Given as goal

abbrev pub invariant-loop-instance : goal.invariant-loop-instance
invariant-loop-instance g l = l.airs.items ≡ airs_of (take l.instance-index l.instances)
