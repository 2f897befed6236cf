use Rattle.tool_prover.specs.Laws.OneAnswer.{one_answer}
use Rattle.tool_prover.proofs.laws.there_is_one_answer.Goals as goal

pub returns : goal.returns
returns c = one_answer
