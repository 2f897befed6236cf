use Rattle.prover_answer.specs.Laws.Verdicts.{exits}
use Rattle.tool_airs.proofs.prove.prove_airs.Goals as goal

pub returns-in_err-proof-clause-first : goal.returns-in_err-proof-clause-first
returns-in_err-proof-clause-first g c = exits _ _ _ c.from_residual.ensures.1 c.in_err-proof.ensures.first
