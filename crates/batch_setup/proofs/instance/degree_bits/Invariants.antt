use Rattle.std.proofs.Common.{◌≡◌, take}
use Rattle.batch_setup.specs.Setup.{bits_of}
use Rattle.batch_setup.proofs.instance.degree_bits.Given as goal

abbrev pub invariant-loop-instance : goal.invariant-loop-instance
invariant-loop-instance g l = l.bits.items ≡ bits_of l.masks (take l.instance-index l.instances)
