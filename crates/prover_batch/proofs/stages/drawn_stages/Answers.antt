use Rattle.p3_field.specs.Laws.Checks.{none_append}
use Rattle.prover_answer.specs.Laws.Verdicts.{answer_before, answer_past, answer_exits}
use Rattle.prover_batch.proofs.stages.drawn_stages.Goals as goal

pub returns-in_err-lookups-clause-verdict : goal.returns-in_err-lookups-clause-verdict
returns-in_err-lookups-clause-verdict g c = answer_exits _ _ _ c.from_residual.ensures.1 (answer_before _ _ _ c.in_err-lookups.ensures.verdict)

pub returns-in_err-quotients-clause-verdict : goal.returns-in_err-quotients-clause-verdict
returns-in_err-quotients-clause-verdict g c =
    answer_exits _ _ _ c.from_residual-in_err-quotients.ensures.1 (answer_past _ _ _ c.in_ok-lookups.ensures.verdict c.in_err-quotients.ensures.verdict)

pub returns-clause-verdict : goal.returns-clause-verdict
returns-clause-verdict g c = none_append _ _ c.in_ok-lookups.ensures.verdict c.in_ok-quotients.ensures.verdict
