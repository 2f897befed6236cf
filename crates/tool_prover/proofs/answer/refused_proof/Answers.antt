use Rattle.tool_jobs.specs.Jobs.{read_tables}
use Rattle.tool_prover.proofs.Answering.{zero_is}
use Rattle.tool_prover.proofs.answer.refused_proof.Goals as goal

pub returns-in-LookupDenominatorZero : goal.returns-in-LookupDenominatorZero
returns-in-LookupDenominatorZero c =
    let w = c.in-LookupDenominatorZero in
    zero_is c.args.version (read_tables c.args.job.now) c.requires.balanced c.args.error w.instance w.row c.refused.result w.is c.requires.told c.refused.ensures.status c.refused.ensures.text
