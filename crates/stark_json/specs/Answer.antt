-- What a run answers.
use Rattle.std.specs.Prelude.{◌≡◌, ◌⊎◌, ℕ, List, [], ◌∷◌, codes, true}
use Rattle.serde_json.specs.Written.{compact_text}
use Rattle.tool_lines.specs.Texts.{line_text}
use Rattle.tool_proof_files.specs.Files.{FileData, FileWithin, file_numbers, version_of}
use Rattle.tool_run.specs.BadInput.{IsBadInput}
use Rattle.tool_run.specs.Program.{Program}
use Rattle.tool_verifier.specs.FileAnswer.{IsFileAnswer}
use Rattle.tool_verifier.specs.declared.status.Status.{Status}
use Rattle.tool_verifier.specs.declared.status.Status.TheVariants.{Done, BadInput}
use Rattle.json_proof_files.specs.Answer.{IsJsonOf, IsNoJson, IsNoProof}
use Rattle.json_proof_files.specs.FileTrees.{file_tree}
use Rattle.stark_json.specs.declared.command.Command.{Command}
use Rattle.stark_json.specs.declared.command.Command.TheVariants.{ToJson, FromJson, VerifyJson}

-- the words name this command
abbrev pub Names : List (List ℕ) → Command → Type 0
Names words ToJson = words ≡ codes "to-json" ∷ []
Names words FromJson = words ≡ codes "from-json" ∷ []
Names words VerifyJson = words ≡ codes "verify-json" ∷ []

-- the text for bytes that are no JSON, and for those that are JSON and no file's
abbrev pub IsBadJson : List ℕ → List ℕ → Type 0
IsBadJson bytes text = (IsNoJson bytes × (text ≡ codes "bad json\n")) ⊎ (IsNoProof bytes × (text ≡ codes "bad tree\n"))

-- The status and the text of `from-json` for all the bytes of an input: the lines of the file whose JSON they are.
abbrev pub IsFromJsonAnswer : List ℕ → Status → List ℕ → Type 0
IsFromJsonAnswer bytes Done text = (file : FileData) × IsJsonOf bytes file × (text ≡ line_text (file_numbers file))
IsFromJsonAnswer bytes BadInput text = IsBadJson bytes text
IsFromJsonAnswer bytes other text = ⊥

-- whatever `from-json` answers for this JSON, it is these lines
abbrev pub ComesBack : (json lines : List ℕ) → Type 0
ComesBack json lines = (status : Status) (text : List ℕ) → IsFromJsonAnswer json status text → (status ≡ Done) × (text ≡ lines)

-- The status and the text of `to-json`: the compact text of the tree of the file whose lines the bytes are, which `from-json` takes back to them.
abbrev pub IsToJsonAnswer : List ℕ → Status → List ℕ → Type 0
IsToJsonAnswer bytes Done text =
    (file : FileData) × (bytes ≡ line_text (file_numbers file)) × (text ≡ compact_text (file_tree file)) × IsJsonOf text file × ComesBack text bytes
IsToJsonAnswer bytes BadInput text = IsBadInput FileWithin file_numbers bytes text
IsToJsonAnswer bytes other text = ⊥

-- The status and the text of `verify-json`: those of `verify` for the file whose JSON the bytes are.
abbrev pub IsVerifyJsonAnswer : List ℕ → Status → List ℕ → Type 0
IsVerifyJsonAnswer bytes BadInput text = IsBadJson bytes text
IsVerifyJsonAnswer bytes status text = (file : FileData) × IsJsonOf bytes file × IsFileAnswer (version_of file.version) file.tables file.proof status text

-- the status and the text of a command for all the bytes of an input
abbrev pub IsCommandAnswer : Command → List ℕ → Status → List ℕ → Type 0
IsCommandAnswer ToJson bytes status text = IsToJsonAnswer bytes status text
IsCommandAnswer FromJson bytes status text = IsFromJsonAnswer bytes status text
IsCommandAnswer VerifyJson bytes status text = IsVerifyJsonAnswer bytes status text

-- the program: its commands, each of which reads the input, their answers, and the text for other words
abbrev pub json_program : Program Command
json_program = record { names = Names; reads = λ c. true; answers = IsCommandAnswer; usage = codes "usage: stark_json to-json | from-json | verify-json\n" }
