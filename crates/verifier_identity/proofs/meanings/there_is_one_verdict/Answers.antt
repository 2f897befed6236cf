use Rattle.verifier_identity.specs.Laws.Verdict.{identity_single}
use Rattle.verifier_identity.proofs.meanings.there_is_one_verdict.Goals as goal

pub returns : goal.returns
returns g c = λ f e index d alpha zeta o trees quotient. identity_single _ f e index d alpha zeta o trees quotient
