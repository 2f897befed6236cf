use Rattle.tool_lines.specs.Laws.Tells.{one-fault}
use Rattle.tool_proof_text.proofs.laws.one_fault.Goals as goal

pub returns : goal.returns
returns c bytes from line other = one-fault from line other
