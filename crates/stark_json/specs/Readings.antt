-- That an answer is the reading's, and not the text's.
use Rattle.std.specs.Prelude.{ℕ, List}
use Rattle.serde_json.specs.Data.{Data}
use Rattle.tool_verifier.specs.declared.status.Status.{Status}
use Rattle.json_proof_files.specs.Answer.{ReadsAs}

-- what is answered for bytes that read as a tree is answered for all that read as it
abbrev pub ByReading : (List ℕ → Status → List ℕ → Type 0) → Type 0
ByReading answers =
    (bytes other : List ℕ) (d : Data) → ReadsAs bytes d → ReadsAs other d → (status : Status) (text : List ℕ) → answers bytes status text → answers other status text
