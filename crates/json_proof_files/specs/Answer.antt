-- What the reading of bytes as JSON answers: the file whose tree they read as, or why there is none.
use Rattle.std.specs.Prelude.{◌≡◌, ◌<◌, ℕ, List, length, Some, Result, MatchResult, IsUtf8}
use Rattle.serde_json.specs.Data.{Data}
use Rattle.serde_json.specs.Read.{read}
use Rattle.tool_proof_files.specs.Files.{FileData, FileWithin}
use Rattle.json_proof_files.specs.FileTrees.{file_tree}
use Rattle.json_proof_files.specs.declared.calls.JsonError.{JsonError}
use Rattle.json_proof_files.specs.declared.calls.JsonError.TheVariants.{NotJson, NotProof, OutOfMemory}

-- the bytes are a text of JSON, which reads as this tree
abbrev pub ReadsAs : List ℕ → Data → Type 0
ReadsAs bytes d = IsUtf8 bytes × (read bytes ≡ Some d)

-- the bytes are no JSON
abbrev pub IsNoJson : List ℕ → Type 0
IsNoJson bytes = (d : Data) → ReadsAs bytes d → ⊥

-- no file within the limits has this tree
abbrev pub IsNoFile : Data → Type 0
IsNoFile d = (f : FileData) → FileWithin f → file_tree f ≡ d → ⊥

-- the bytes are JSON that is no file's
abbrev pub IsNoProof : List ℕ → Type 0
IsNoProof bytes = (d : Data) × ReadsAs bytes d × IsNoFile d

-- the bytes are JSON that is this file's, which is within the limits
abbrev pub IsJsonOf : List ℕ → FileData → Type 0
IsJsonOf bytes f = FileWithin f × ReadsAs bytes (file_tree f)

abbrev pub WhyNot : List ℕ → JsonError → Type 0
WhyNot bytes NotJson = IsNoJson bytes
WhyNot bytes NotProof = IsNoProof bytes
WhyNot bytes OutOfMemory = 0 < length bytes

-- the file whose JSON the bytes are, or why there is none
abbrev pub ReadsJson : {A : Type 0} → (A → FileData) → List ℕ → Result A JsonError → Type 0
ReadsJson data_of bytes result = MatchResult result (λ f. IsJsonOf bytes (data_of f)) (WhyNot bytes)

-- where the bytes are a file's JSON, this file is read, or memory runs out
abbrev pub ReadsFile : {A : Type 0} → (A → FileData) → List ℕ → Result A JsonError → Type 0
ReadsFile data_of bytes result = (file : FileData) → IsJsonOf bytes file → MatchResult result (λ f. data_of f ≡ file) (λ e. e ≡ OutOfMemory)

-- a tree is that of one file alone
abbrev pub TreesTell : Type 0
TreesTell = (f g : FileData) → FileWithin f → FileWithin g → file_tree f ≡ file_tree g → f ≡ g
