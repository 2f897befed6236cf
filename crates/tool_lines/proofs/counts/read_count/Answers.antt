use Rattle.tool_lines.proofs.Counted.{count-again}
use Rattle.tool_lines.proofs.counts.read_count.Goals as goal

pub returns-in-Some : goal.returns-in-Some
returns-in-Some c = count-again c.args.most _ _ _ c.in-Some.count c.number.result c.in-Some.ensures.1 c.number.ensures
