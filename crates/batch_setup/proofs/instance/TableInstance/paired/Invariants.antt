use Rattle.std.proofs.Common.{◌≡◌, ◌++◌, map, drop}
use Rattle.batch_setup.specs.Setup.{instances_of}
use Rattle.batch_setup.proofs.instance.TableInstance.paired.Given as goal

abbrev pub invariant-loop-i : goal.invariant-loop-i
invariant-loop-i g l = l.instances.items ++ instances_of (drop l.i l.airs) (drop l.i l.traces) (drop l.i (map (λ p. p.items) l.public_values)) ≡ instances_of l.airs l.traces (map (λ p. p.items) l.public_values)
