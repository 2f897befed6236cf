use Rattle.air_core.specs.Laws.Recording.{represents-product}
use Rattle.air_core.proofs.recorder.InteractionSymbolicBuilder.push_product.Goals as goal

pub returns-clause-represents : goal.returns-clause-represents
returns-clause-represents g c s t h k =
    represents-product c.push.result c.args.self.now.nodes c.push.new.self.nodes c.args.x c.args.y s t h k
    (rw (← c.place-left.ensures.place, ← c.place-right.ensures.place) c.push.ensures.represents)
