use Rattle.std.proofs.Common.{ap, Err}
use Rattle.serde_json.specs.View.{view}
use Rattle.json_proof_files.specs.FileTrees.{file_tree}
use Rattle.json_proof_files.specs.Laws.Readings.{not-a-file, one-file, one-reading}
use Rattle.json_proof_files.proofs.Answers.{is-file, is-no-file, some-bytes}
use Rattle.json_proof_files.proofs.calls.from_json.Goals as goal

pub returns-in-Ok-read-clause-reading : goal.returns-in-Ok-read-clause-reading
returns-in-Ok-read-clause-reading c = is-file c.args.bytes.now (view c.in-Ok.tree) c.in-Ok-read.file c.in-Ok.ensures.ok c.in-Ok-read.ensures.ok

pub returns-in-Ok-read-clause-one_file : goal.returns-in-Ok-read-clause-one_file
returns-in-Ok-read-clause-one_file c = λ file j.
    one-file c.args.bytes.now c.in-Ok-read.file file (is-file c.args.bytes.now (view c.in-Ok.tree) c.in-Ok-read.file c.in-Ok.ensures.ok c.in-Ok-read.ensures.ok) j

pub returns-in-Err-NoTree-clause-reading : goal.returns-in-Err-NoTree-clause-reading
returns-in-Err-NoTree-clause-reading c = is-no-file c.args.bytes.now (view c.in-Ok.tree) c.in-Ok.ensures.ok (c.in-Err-NoTree.ensures.err (ap Err c.in-Err-NoTree.field-0-is))

pub returns-in-Err-NoTree-clause-one_file : goal.returns-in-Err-NoTree-clause-one_file
returns-in-Err-NoTree-clause-one_file c = λ file j. absurd
    (not-a-file (view c.in-Ok.tree) (c.in-Err-NoTree.ensures.err (ap Err c.in-Err-NoTree.field-0-is)) file j.0 (one-reading c.args.bytes.now (file_tree file) (view c.in-Ok.tree) j.1 c.in-Ok.ensures.ok))

pub returns-in-Ok-clause-reading : goal.returns-in-Ok-clause-reading
returns-in-Ok-clause-reading c = some-bytes c.args.bytes.now (view c.in-Ok.tree) c.in-Ok.ensures.ok
