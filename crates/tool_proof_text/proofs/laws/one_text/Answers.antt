use Rattle.tool_lines.specs.Laws.Tells.{texts-tell}
use Rattle.tool_proof_text.specs.Laws.Proofs.{proof-grammar}
use Rattle.tool_proof_text.proofs.laws.one_text.Goals as goal

pub returns : goal.returns
returns c = texts-tell proof-grammar
