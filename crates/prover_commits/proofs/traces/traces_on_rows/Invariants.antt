use Rattle.std.proofs.Common.{◌≡◌, map, take}
use Rattle.p3_field.specs.Domain.{subgroup}
use Rattle.p3_matrix.specs.Matrix.{height}
use Rattle.batch_setup.specs.Setup.{log_of}
use Rattle.prover_commits.proofs.traces.traces_on_rows.Given as goal

abbrev pub invariant-loop-instance : goal.invariant-loop-instance
invariant-loop-instance g l = l.traces.items ≡ map (λ i. (subgroup g.SC.Val.RingCore.ring (log_of (height i.trace)), i.trace)) (take l.instance-index l.instances)
