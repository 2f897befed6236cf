use Rattle.std.proofs.Common.{◌≡◌, drop}
use Rattle.std.specs.BTreeMap.{values}
use Rattle.stark_balance.specs.Entries.{AreKeyed}
use Rattle.stark_balance.specs.Nets.{by_key, net_counts, nets_onto}
use Rattle.stark_balance.proofs.counts.net_counts.Given as goal

abbrev pub invariant-loop-i : goal.invariant-loop-i
invariant-loop-i g l =
    AreKeyed (λ k. k.items) g.F.PrimeCore64.canonical l.entries.entries
    × (nets_onto g.F.RingCore.ring (by_key g.F.PrimeCore64.canonical) (values l.entries) (drop l.i l.messages) ≡ net_counts g.F.RingCore.ring g.F.PrimeCore64.canonical l.messages)
