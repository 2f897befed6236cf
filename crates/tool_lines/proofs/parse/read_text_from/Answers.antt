use Rattle.tool_lines.proofs.Faults.{stop-faults, rest-faults, not-empty}
use Rattle.tool_lines.proofs.parse.read_text_from.Goals as goal
use Rattle.tool_lines.proofs.parse.read_text_from.Goals.{in-Ok+else-is_empty, in-Err-Malformed}

pub returns : goal.returns
returns g c = elim c.match-read.branch [
  | in-Ok+else-is_empty w ↦ rest-faults c.args.bytes.now c.rest-2.result.now c.args.from c.line_after.result c.requires c.new-reader.ensures c.rest-2.ensures g.met.T.Form.grammar
      w.in-Ok.ensures (not-empty _ _ _ w.rest.ensures w.is_empty.ensures w.if-is_empty.false) c.line_after.ensures
  | in-Err-Malformed w ↦ stop-faults c.args.bytes.now c.rest-2.result.now c.args.from c.line_after.result c.requires c.new-reader.ensures c.rest-2.ensures g.met.T.Form.grammar
      (w.in-Err-Malformed.ensures w.in-Err-Malformed.field-0-is) c.line_after.ensures
]
