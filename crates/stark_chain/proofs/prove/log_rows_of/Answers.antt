use Rattle.std.proofs.Common.{◌≤◌, arith}
use Rattle.chain_proofs.specs.Laws.Outcome.{log_few}
use Rattle.stark_chain.proofs.prove.log_rows_of.Goals as goal

pub overflow_cast-result : goal.overflow_cast-result
overflow_cast-result c =
    let few : c.log2_strict_usize.result ≤ 3 = log_few _ c.log2_strict_usize.result c.requires.power c.requires.few c.log2_strict_usize.ensures in omega (arith, few)

pub returns-clause-few : goal.returns-clause-few
returns-clause-few c = log_few _ c.log2_strict_usize.result c.requires.power c.requires.few c.log2_strict_usize.ensures
