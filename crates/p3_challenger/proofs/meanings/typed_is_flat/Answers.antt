use Rattle.p3_challenger.specs.Laws.Flat.{play-flat}
use Rattle.p3_challenger.proofs.meanings.typed_is_flat.Goals as goal

pub returns : goal.returns
returns g c = λ f b parts opaque dimension over. play-flat f b parts opaque dimension over
