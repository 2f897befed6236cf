use Rattle.std.proofs.Common.{arith, refl}
use Rattle.tool_lines.proofs.Stops.{number-stops, below-stops}
use Rattle.tool_lines.proofs.texts.Reader.number.Goals as goal

pub returns-in-None : goal.returns-in-None
returns-in-None c = rw (← c.self.view_is) (refl, number-stops c.args.least c.args.most c.self.inside.rest.now c.requires c.in-None.ensures)

pub returns-in-Some : goal.returns-in-Some
returns-in-Some c = rw (← c.self.view_is) (refl, below-stops c.args.least c.args.most c.in-Some.value c.self.inside.rest.now _ c.requires (omega arith) (omega arith) c.in-Some.ensures.2)
