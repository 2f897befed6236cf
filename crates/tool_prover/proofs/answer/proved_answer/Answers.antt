use Rattle.tool_jobs.specs.Jobs.{read_tables}
use Rattle.tool_prover.proofs.Answering.{proved_is, within_is}
use Rattle.tool_prover.proofs.answer.proved_answer.Goals as goal

pub write_proof_file-requires : goal.write_proof_file-requires
write_proof_file-requires c = within_is c.args.version (read_tables c.args.job.now) c.requires.balanced c.requires.within c.version_number.result c.args.tables.items c.args.proof c.version_number.ensures c.requires.tables c.requires.outcome

pub returns : goal.returns
returns c =
    proved_is c.args.version (read_tables c.args.job.now) c.requires.balanced c.requires.within c.version_number.result c.args.tables.items c.args.proof c.in_ok-text.text.items c.version_number.ensures c.requires.tables c.requires.outcome
    c.in_ok-text.ensures.text
