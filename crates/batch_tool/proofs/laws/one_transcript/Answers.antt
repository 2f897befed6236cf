use Rattle.batch_tool.specs.Laws.Played.{plays_by_elements}
use Rattle.batch_tool.proofs.laws.one_transcript.Goals as goal

pub returns : goal.returns
returns c shape given = plays_by_elements shape given
