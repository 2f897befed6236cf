use Rattle.std.proofs.Common.{subst}
use Rattle.chain_proofs.specs.Statement.{IsChainOutcome}
use Rattle.stark_chain.specs.Seen.{read_job}
use Rattle.stark_chain.proofs.Answering.{inside_is}
use Rattle.stark_chain.proofs.prove.answer_prove.Goals as goal

pub returns-in-Ok-None : goal.returns-in-Ok-None
returns-in-Ok-None c =
    let o = c.in-Ok-None.field-0 in
    let outcome = subst (λ bs. IsChainOutcome c.args.job.now.start bs o) c.deref.ensures.value c.in-Ok-None.ensures.outcome in
    inside_is (read_job c.args.job.now) o c.refused.result outcome c.in-Ok-None.field-0-is c.refused.ensures.status c.refused.ensures.text
