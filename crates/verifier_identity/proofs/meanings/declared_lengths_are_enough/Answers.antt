use Rattle.verifier_identity.specs.Laws.Opened.{declared_lengths_enough}
use Rattle.verifier_identity.proofs.meanings.declared_lengths_are_enough.Goals as goal

pub returns : goal.returns
returns g c = λ d lookups o main preprocessed are lengths. declared_lengths_enough d lookups o main preprocessed are lengths
