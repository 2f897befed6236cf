use Rattle.std.proofs.Common.{◌≡◌, drop}
use Rattle.p3_lookup.specs.Term.{sum_of}
use Rattle.p3_lookup.specs.Terminal.{present}
use Rattle.p3_lookup.proofs.gadget.terminals_vanish.Given as goal

abbrev pub invariant-loop-terminal : goal.invariant-loop-terminal
invariant-loop-terminal g l =
    let r = g.EF.RingCore.ring in
    r.add l.sum (sum_of r (present (drop l.terminal-index l.terminals))) ≡ sum_of r (present l.terminals)
