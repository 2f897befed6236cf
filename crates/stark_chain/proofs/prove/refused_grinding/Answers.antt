use Rattle.stark_chain.specs.Seen.{read_job}
use Rattle.stark_chain.proofs.Answering.{ood_is}
use Rattle.stark_chain.proofs.prove.refused_grinding.Goals as goal

pub returns : goal.returns
returns c = ood_is (read_job c.args.job.now) c.args.step c.refused.result c.in-Ood.is c.requires c.refused.ensures.status c.refused.ensures.text
