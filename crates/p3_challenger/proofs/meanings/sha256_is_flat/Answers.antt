use Rattle.p3_challenger.specs.Laws.Sha256Flat.{sha256-over}
use Rattle.p3_challenger.proofs.meanings.sha256_is_flat.Goals as goal

pub returns : goal.returns
returns g c = λ opaque. sha256-over opaque
