use Rattle.serde_json.specs.View.{view}
use Rattle.json_proof_files.proofs.Answers.{json-of, text-of}
use Rattle.json_proof_files.proofs.calls.to_json.Goals as goal

pub returns-clause-text : goal.returns-clause-text
returns-clause-text c = text-of c.args.file.now (view c.in_ok-tree.tree) c.to_vec.result c.in_ok-tree.ensures c.to_vec.ensures.text

pub returns-clause-reads_back : goal.returns-clause-reads_back
returns-clause-reads_back c = json-of c.args.file.now (view c.in_ok-tree.tree) c.to_vec.result c.in_ok-tree.ensures c.requires c.to_vec.ensures.utf8 c.to_vec.ensures.reads_back
