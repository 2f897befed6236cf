use Rattle.commit_core.specs.Space.{IsPart, EachOf}
use Rattle.commit_core.proofs.split.split_domain.Given as goal

abbrev pub invariant-loop-i : goal.invariant-loop-i
invariant-loop-i g l = EachOf l.i l.parts.items (IsPart g.F.RingCore.ring g.F.TwoAdicCore.root l.domain l.num_chunks)
