use Rattle.std.proofs.Common.{◌≡◌, ◌^◌, Some, map}
use Rattle.std.specs.Prelude.{slice_get}
use Rattle.p3_field.specs.Domain.{point}
use Rattle.std.specs.Ordering.{nat_cmp}
use Rattle.std.specs.BTreeMap.{get}
use Rattle.commit_core.specs.Periodic.{IsPeriodicAt}
use Rattle.commit_core.specs.Weights.{AreKnown}
use Rattle.commit_core.specs.Space.{EachOf}
use Rattle.commit_core.proofs.periodic_values.periodic_values.Given as goal

abbrev pub invariant-loop-column : goal.invariant-loop-column
invariant-loop-column g l =
    let columns = map (λ c. c.items) l.column-items in
    record {
      known : AreKnown g.F.RingCore.ring g.EF.RingCore.ring g.EF.ExtensionField.embed (2 ^ l.domain.log_size) (point g.F.RingCore.ring g.F.TwoAdicCore.root l.domain) l.x (get nat_cmp l.weights) (λ v. v.items);
      values_so_far : EachOf l.column-index l.values.items (λ i y. (x : _) → slice_get columns i ≡ Some x
          → IsPeriodicAt g.F.RingCore.ring g.EF.RingCore.ring g.EF.ExtensionField.embed (2 ^ l.domain.log_size) (point g.F.RingCore.ring g.F.TwoAdicCore.root l.domain) l.x x y);
    }
