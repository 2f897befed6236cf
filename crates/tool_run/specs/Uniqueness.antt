-- There is at most one answer of a program to words and bytes.
use Rattle.std.specs.Prelude.{◌≡◌, ℕ, List}
use Rattle.tool_run.specs.Program.{Program}
use Rattle.tool_run.specs.Run.{IsAnswer}
use Rattle.tool_verifier.specs.FileAnswer.{SameAnswer}
use Rattle.tool_verifier.specs.declared.status.Status.{Status}

module _ {C : Type 0} (p : Program C) where
  -- words name at most one command
  abbrev pub NameOneCommand : List (List ℕ) → Type 0
  NameOneCommand words = (c d : C) → p.names words c → p.names words d → c ≡ d

  -- two answers of a command to the same bytes are one
  abbrev pub AnswersOnce : C → Type 0
  AnswersOnce c = (bytes : List ℕ) (s t : Status) (x y : List ℕ) → p.answers c bytes s x → p.answers c bytes t y → SameAnswer s t x y

  -- two answers to the same words and the same bytes are one: words that name no command are answered by the program's text for these
  abbrev pub HasOneAnswer : List (List ℕ) → List ℕ → Type 0
  HasOneAnswer words bytes = (s t : Status) (x y : List ℕ) → IsAnswer p words bytes s x → IsAnswer p words bytes t y → SameAnswer s t x y
