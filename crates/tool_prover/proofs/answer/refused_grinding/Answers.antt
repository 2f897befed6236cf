use Rattle.tool_jobs.specs.Jobs.{read_tables}
use Rattle.tool_prover.proofs.Answering.{lookup_is, ood_is}
use Rattle.tool_prover.proofs.answer.refused_grinding.Goals as goal

pub returns-in-Lookup : goal.returns-in-Lookup
returns-in-Lookup c =
    lookup_is c.args.version (read_tables c.args.job.now) c.requires.balanced c.args.step c.refused.result c.in-Lookup.is c.requires.told c.refused.ensures.status c.refused.ensures.text

pub returns-in-Ood : goal.returns-in-Ood
returns-in-Ood c =
    let r = c.refused-in-Ood in
    ood_is c.args.version (read_tables c.args.job.now) c.requires.balanced c.args.step r.result c.in-Ood.is c.requires.told r.ensures.status r.ensures.text
