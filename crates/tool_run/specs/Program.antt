-- A program as its commands see it.
use Rattle.std.specs.Prelude.{ℕ, List, Bool, Option, MatchOption, ⊤}
use Rattle.tool_verifier.specs.declared.status.Status.{Status}
use Rattle.tool_verifier.specs.declared.status.Status.TheVariants.{Done, Refused, BadInput}

-- A program: which words name a command, whether a command reads the input, which status and text it answers for all the bytes of an input (for
-- none, where it reads none), and the text for words that name no command.
pub record Program (C : Type 0) : Type 1 where
  pub names : List (List ℕ) → C → Type 0
  pub reads : C → Bool
  pub answers : C → List ℕ → Status → List ℕ → Type 0
  pub usage : List ℕ

-- the statuses of a command's answer: the command did its work, it refused its input, or the input is no text of its grammar
abbrev pub IsAnswerStatus : Status → Type 0
IsAnswerStatus Done = ⊤
IsAnswerStatus Refused = ⊤
IsAnswerStatus BadInput = ⊤
IsAnswerStatus other = ⊥

-- each answer of a command has one of these
abbrev pub AnswersOnly : {C : Type 0} → Program C → Type 0
AnswersOnly {C} p = (command : C) (bytes : List ℕ) (status : Status) (text : List ℕ) → p.answers command bytes status text → IsAnswerStatus status

-- what the reading of words answers: a command that they name, or none where they name none
abbrev pub ReadsWords : {C : Type 0} → Program C → List (List ℕ) → Option C → Type 0
ReadsWords {C} p words result = MatchOption result ((c : C) → p.names words c → ⊥) (λ c. p.names words c)
