use Rattle.std.proofs.Common.{◌≡◌, drop}
use Rattle.std.specs.Prelude.{All}
use Rattle.p3_lookup.specs.Lookup.{HasCountForEach}
use Rattle.p3_lookup.specs.Written.{read_all}
use Rattle.p3_lookup.specs.Packing.{packed_onto, packed}
use Rattle.p3_lookup.proofs.packing.all_placed.Given as goal

abbrev pub invariant-loop-i : goal.invariant-loop-i
invariant-loop-i g l = record {
  counted : All HasCountForEach (read_all l.kept.items);
  onto : packed_onto g.F.RingCore.ring l.t l.budget (read_all l.kept.items) (drop l.i (read_all l.lookups)) ≡ packed g.F.RingCore.ring l.t l.budget (read_all l.lookups);
}
