use Rattle.p3_lookup.proofs.Groups.{AreScaled}
use Rattle.p3_lookup.proofs.generate.quotients_of.Given as goal

abbrev pub invariant-loop-i : goal.invariant-loop-i
invariant-loop-i g l = AreScaled g.EF.RingCore.ring g.EF.FieldCore.inv l.terms l.quotients.items l.i
