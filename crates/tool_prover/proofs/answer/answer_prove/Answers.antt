use Rattle.tool_jobs.specs.Jobs.{read_tables}
use Rattle.tool_prover.proofs.Answering.{balanced_is, inside_is, unbalanced_is}
use Rattle.tool_prover.proofs.answer.answer_prove.Goals as goal

pub returns-in-Some : goal.returns-in-Some
returns-in-Some c =
    unbalanced_is c.args.version (read_tables c.args.job.now) c.in_ok-word.field-0 c.in-Some.word c.as_canonical_u64.result c.refused.result c.in_ok-word.ensures c.in-Some.is c.as_canonical_u64.ensures c.refused.ensures.status c.refused.ensures.text

pub returns-in-Ok-None : goal.returns-in-Ok-None
returns-in-Ok-None c =
    let job = read_tables c.args.job.now in
    let r = c.refused-in-Ok-None in
    inside_is c.args.version job (balanced_is c.args.version job c.in_ok-word.field-0 c.in_ok-word.ensures c.in_default.is) c.in-Ok-None.field-0 r.result c.in-Ok-None.ensures.outcome c.in-Ok-None.field-0-is r.ensures.status r.ensures.text
