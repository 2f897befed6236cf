use Rattle.transcript_version.specs.declared.TranscriptVersion.TheVariants.{V2}
use Rattle.tool_verifier.specs.Laws.Stated.{single_is}
use Rattle.chain_proofs.specs.Statement.{chain_statement}
use Rattle.stark_chain.specs.Laws.OneAnswer.{HasSingleChecks, one_answer_of_chains, one_name}
use Rattle.stark_chain.specs.Texts.{FileData}
use Rattle.stark_chain.proofs.laws.one_answer.Goals as goal

pub returns-clause-command : goal.returns-clause-command
returns-clause-command c words = one_name words

pub returns-clause-answer : goal.returns-clause-answer
returns-clause-answer c words bytes = one_answer_of_chains single words bytes
  where
    single : (f : FileData) → HasSingleChecks f
    single f =
        let s = chain_statement f.start f.end f.log_rows in
        single_is V2 _ c.tool_config-config.result.pcs s f.proof c.tool_config-config.ensures.setting c.tool_config-config.ensures.scheme
        (c.there_is_one_verdict.ensures.single c.tool_config-config.result s f.proof)
