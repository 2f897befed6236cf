use Rattle.p3_lookup.specs.Written.{read, read_all}
use Rattle.p3_lookup.proofs.Packed.{Passed}
use Rattle.p3_lookup.proofs.packing.taker.Given as goal

abbrev pub invariant-loop-i : goal.invariant-loop-i
invariant-loop-i g l = Passed g.F.RingCore.ring l.t l.budget (read_all l.kept) (read l.lookup) l.i
