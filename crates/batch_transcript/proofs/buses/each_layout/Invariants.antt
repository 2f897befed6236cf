use Rattle.std.proofs.Common.{◌≡◌, map}
use Rattle.p3_field.specs.Poly.{tabulate}
use Rattle.p3_lookup.specs.Written.{read_all}
use Rattle.p3_lookup.specs.Bus.{lookups_before}
use Rattle.batch_transcript.specs.Running.{lists}
use Rattle.batch_transcript.specs.Buses.{instance_challenges}
use Rattle.batch_transcript.proofs.buses.each_layout.Given as goal

abbrev pub invariant-loop-instance : goal.invariant-loop-instance
invariant-loop-instance g l = record {
  start : l.start ≡ lookups_before (map read_all l.lookups) l.instance-index;
  all : lists l.all.items ≡ tabulate l.instance-index (instance_challenges g.EF.RingCore.ring l.challenges (map read_all l.lookups));
}
