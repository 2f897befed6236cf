use Rattle.std.proofs.Common.{◌≤◌, arith, sym}
use Rattle.batch_setup.specs.Laws.Logarithms.{log_of_power}
use Rattle.tool_jobs.specs.Laws.Statements.{few_log}
use Rattle.tool_jobs.proofs.table.log_of_items.Goals as goal

pub overflow_cast-result : goal.overflow_cast-result
overflow_cast-result c =
    let few : c.log2_strict_usize.result ≤ 10 = few_log 10 c.args.count c.log2_strict_usize.result c.log2_strict_usize.ensures c.requires.few in omega (arith, few)

pub returns-clause-value : goal.returns-clause-value
returns-clause-value c = sym (log_of_power c.args.count c.log2_strict_usize.result c.log2_strict_usize.ensures)

pub returns-clause-few : goal.returns-clause-few
returns-clause-few c = few_log 10 c.args.count c.log2_strict_usize.result c.log2_strict_usize.ensures c.requires.few

pub returns-clause-fewer : goal.returns-clause-fewer
returns-clause-fewer c = λ h. few_log 3 c.args.count c.log2_strict_usize.result c.log2_strict_usize.ensures h
