use Rattle.p3_field.specs.Checks.{AreSingle}
use Rattle.verifier_batch.specs.BatchChecks.{checks}
use Rattle.transcript_version.specs.declared.TranscriptVersion.{TranscriptVersion}
use Rattle.transcript_version.specs.declared.TranscriptVersion.TheVariants.{V1, V2}
use Rattle.tool_statement.specs.Config.{tool_backend, tool_setting}
use Rattle.tool_statement.specs.StatedTables.{tool_statement}
use Rattle.tool_verifier.proofs.OneAnswer.{same_answer}
use Rattle.tool_verifier.specs.Laws.Stated.{single_is}
use Rattle.tool_verifier.proofs.laws.there_is_one_answer.Goals as goal

pub returns : goal.returns
returns c version tables p s t x y a b = same_answer version tables p (single version) s t x y a b
  where
    single : (v : TranscriptVersion) → AreSingle (checks (tool_setting v) tool_backend (tool_statement tables) p)
    single V1 =
        single_is V1 _ c.tool_config-first.result.pcs (tool_statement tables) p c.tool_config-first.ensures.setting c.tool_config-first.ensures.scheme
        (c.there_is_one_verdict.ensures.single c.tool_config-first.result (tool_statement tables) p)
    single V2 =
        single_is V2 _ c.tool_config-second.result.pcs (tool_statement tables) p c.tool_config-second.ensures.setting c.tool_config-second.ensures.scheme
        (c.there_is_one_verdict.ensures.single c.tool_config-second.result (tool_statement tables) p)
