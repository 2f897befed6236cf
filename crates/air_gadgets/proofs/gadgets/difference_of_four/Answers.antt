use Rattle.std.proofs.Common.{[]}
use Rattle.air_gadgets.proofs.gadgets.difference_of_four.Goals as goal

pub returns-clause-appends : goal.returns-clause-appends
returns-clause-appends g c = g.met.AB.AirBuilder.appends_along _ _ _ [] _ [] [] c.difference_of_three.ensures.appends c.sub.ensures.appends
