use Rattle.std.proofs.Common.{sym}
use Rattle.batch_setup.specs.Laws.Logarithms.{log_of_power}
use Rattle.tool_shaped.proofs.parts.log_of_rows.Goals as goal

pub returns : goal.returns
returns c = sym (log_of_power _ c.log2_strict_usize.result c.log2_strict_usize.ensures)
