use Rattle.std.proofs.Common.{◌++◌, refl}
use Rattle.tool_lines.specs.Texts.{line_text}
use Rattle.tool_lines.specs.Laws.Back.{part-reads-back}
use Rattle.tool_proof_text.specs.ProofText.{proof_numbers}
use Rattle.tool_proof_text.specs.Laws.Proofs.{proof-grammar}
use Rattle.tool_proof_text.proofs.laws.read_back.Goals as goal

pub returns : goal.returns
returns c proof front fits = part-reads-back proof-grammar proof front (front ++ line_text (proof_numbers proof)) fits refl
