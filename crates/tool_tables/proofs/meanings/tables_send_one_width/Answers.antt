use Rattle.tool_tables.specs.Laws.OneWidth.{tools_have_one_width}
use Rattle.tool_tables.proofs.meanings.tables_send_one_width.Goals as goal

pub returns : goal.returns
returns g c = tools_have_one_width g.F.RingCore.ring
