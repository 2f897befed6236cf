use Rattle.verifier_draws.specs.Laws.ShapeOf.{is_shape}
use Rattle.verifier_draws.proofs.meanings.a_statements_shape_is_one_of_batches.Goals as goal

pub returns : goal.returns
returns g c = λ version zk lookup_bits ood_bits s h. is_shape version zk lookup_bits ood_bits s h
