-- What a run answers.
use Rattle.std.specs.Prelude.{◌≡◌, ◌∷◌, [], ℕ, List, codes, true}
use Rattle.tool_lines.specs.Texts.{line_text}
use Rattle.tool_proof_files.specs.Files.{FileData, FileWithin, file_numbers, version_of}
use Rattle.tool_run.specs.BadInput.{IsBadInput}
use Rattle.tool_run.specs.Program.{Program}
use Rattle.tool_verifier.specs.declared.status.Status.{Status}
use Rattle.tool_verifier.specs.declared.status.Status.TheVariants.{BadInput}
use Rattle.stark_audit.specs.Explain.{DoneWhereAccepted, IsExplained, NamesRefusalElse}
use Rattle.stark_audit.specs.declared.command.Command.{Command}
use Rattle.stark_audit.specs.declared.command.Command.TheVariants.{Explain}

-- the words name this command
abbrev pub Names : List (List ℕ) → Command → Type 0
Names words Explain = words ≡ codes "explain" ∷ []

-- The status and the text of `explain` for all the bytes of an input: the report on the file whose lines they are. It is done exactly where the file is
-- accepted, and else the first line of what fails names `verify`'s refusal.
abbrev pub IsExplainAnswer : List ℕ → Status → List ℕ → Type 0
IsExplainAnswer bytes BadInput text = IsBadInput FileWithin file_numbers bytes text
IsExplainAnswer bytes status text =
    (file : FileData) × FileWithin file × (bytes ≡ line_text (file_numbers file))
    × IsExplained (version_of file.version) file.tables file.proof status text
    × DoneWhereAccepted (version_of file.version) file.tables file.proof status
    × NamesRefusalElse (version_of file.version) file.tables file.proof status text

-- the status and the text of a command for all the bytes of an input
abbrev pub IsCommandAnswer : Command → List ℕ → Status → List ℕ → Type 0
IsCommandAnswer Explain bytes status text = IsExplainAnswer bytes status text

-- the program: its one command, which reads the input, the answers, and the text for other words
abbrev pub audit_program : Program Command
audit_program = record { names = Names; reads = λ c. true; answers = IsCommandAnswer; usage = codes "usage: stark_audit explain\n" }
