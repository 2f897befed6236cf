use Rattle.prover_answer.specs.Laws.Verdicts.{answer_exits, exits}
use Rattle.prover_batch.proofs.prover.prove_batch.Goals as goal

pub returns-in_err-proof-clause-verdict : goal.returns-in_err-proof-clause-verdict
returns-in_err-proof-clause-verdict g c = answer_exits _ _ _ c.from_residual.ensures.1 c.in_err-proof.ensures.verdict

pub returns-in_err-proof-clause-first : goal.returns-in_err-proof-clause-first
returns-in_err-proof-clause-first g c = exits _ _ _ c.from_residual.ensures.1 c.in_err-proof.ensures.first
