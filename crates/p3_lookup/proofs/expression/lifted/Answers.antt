use Rattle.std.proofs.Common.{[]}
use Rattle.p3_lookup.proofs.expression.lifted.Goals as goal

pub returns-clause-appends : goal.returns-clause-appends
returns-clause-appends g c = g.met.AB.AirBuilder.appends_along _ _ _ [] [] [] [] c.expression_at.ensures.appends c.lift.ensures.appends
