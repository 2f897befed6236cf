-- Bytes read as one tree, and are the JSON of one file.
use Rattle.std.specs.Prelude.{◌≡◌, ℕ, List, None}
use Rattle.std.proofs.Common.{sym, ◌∙◌}
use Rattle.serde_json.specs.Data.{Data}
use Rattle.tool_proof_files.specs.Files.{FileData}
use Rattle.json_forms.specs.Laws.Forms.{none-read, some-same, trees-tell}
use Rattle.json_proof_files.specs.Answer.{IsJsonOf, IsNoFile, ReadsAs, TreesTell}
use Rattle.json_proof_files.specs.FileReadings.{file_reading}
use Rattle.json_proof_files.specs.FileTrees.{file_tree}
use Rattle.json_proof_files.specs.Laws.FileForms.{file-form}

pub one-reading : (bytes : List ℕ) (d e : Data) → ReadsAs bytes d → ReadsAs bytes e → d ≡ e
one-reading bytes d e p q = some-same d e (sym p.1 ∙ q.1)

pub files-tell : TreesTell
files-tell f g p q e = trees-tell file-form f g p q e

pub one-file : (bytes : List ℕ) (f g : FileData) → IsJsonOf bytes f → IsJsonOf bytes g → f ≡ g
one-file bytes f g p q = files-tell f g p.0 q.0 (one-reading bytes (file_tree f) (file_tree g) p.1 q.1)

-- a tree that isn't read is no file's
pub not-a-file : (d : Data) → file_reading d ≡ None → IsNoFile d
not-a-file d e f fits same = none-read file-form d e f fits same
