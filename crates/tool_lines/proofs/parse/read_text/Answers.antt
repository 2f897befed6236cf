use Rattle.tool_lines.proofs.Faults.{from-start}
use Rattle.tool_lines.proofs.parse.read_text.Goals as goal

pub returns : goal.returns
returns g c = from-start g.T.Form.data_of g.T.Form.within g.T.Form.numbers c.args.bytes.now c.read_text_from.result c.read_text_from.ensures
