use Rattle.std.proofs.Common.{[]}
use Rattle.air_gadgets.proofs.gadgets.difference_of_three.Goals as goal

pub returns-clause-appends : goal.returns-clause-appends
returns-clause-appends g c = g.met.AB.AirBuilder.appends_along _ _ _ [] _ [] [] c.sub.ensures.appends c.sub-2.ensures.appends
