use Rattle.transcript_version.specs.declared.TranscriptVersion.TheVariants.{V2}
use Rattle.tool_demo.specs.Laws.OneAnswer.{one_answer}
use Rattle.tool_demo.proofs.laws.there_is_one_answer.Goals as goal

pub returns : goal.returns
returns c number = one_answer (c.there_is_one_answer.ensures V2) number
