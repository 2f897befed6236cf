use Rattle.json_proof_files.specs.Laws.Readings.{files-tell}
use Rattle.json_proof_files.proofs.laws.one_tree.Goals as goal

pub returns : goal.returns
returns c = files-tell
