use Rattle.prover_values.specs.Laws.Given.{some_table_is_read}
use Rattle.prover_values.proofs.meanings.some_table_is_read.Goals as goal

pub returns : goal.returns
returns g c f e top inverse d k given L fits nz main preprocessed permutation = some_table_is_read f e top inverse L d fits nz k given main preprocessed permutation
