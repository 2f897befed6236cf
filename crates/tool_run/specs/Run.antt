-- What a run of a program answers.
use Rattle.std.specs.Prelude.{◌≡◌, ◌≤◌, ◌<◌, ◌+◌, ℕ, List, [], length, take, Option, Bool, true, false, Result, Vec, Ok, Err, ⊤}
use Rattle.std.specs.Io.KnownBytes.{Consumes, Appends, IsAtEnd}
use Rattle.std.specs.declared.alloc.Global.{Global}
use Rattle.tool_bytes.specs.declared.ends.InputError.{InputError}
use Rattle.tool_bytes.specs.declared.ends.InputError.TheVariants.{ReadFault as ReadFailed, TooLarge as HasMore, OutOfMemory as NoMemory}
use Rattle.tool_run.specs.Program.{Program}
use Rattle.tool_verifier.specs.declared.status.Status.{Status}
use Rattle.tool_verifier.specs.declared.status.Status.TheVariants.{Usage, ReadFault, WriteFault, OutOfMemory, TooLarge}

-- what was read where a command answers: all bytes, up to the end of the input, and they were not too many; or none, where the command reads none
abbrev pub IsReadFor : (most : ℕ) (reads : Bool) (read : List ℕ) (ended : Type 0) → Type 0
IsReadFor most true read ended = ended × (length read ≤ most)
IsReadFor most false read ended = read ≡ []

-- what the reading of a command's input answers by the bytes that it took: an error comes only where the command reads
abbrev pub AnswersInput : (most : ℕ) (reads : Bool) (taken : List ℕ) (ended : Type 0) → Result (Vec ℕ Global) InputError → Type 0
AnswersInput most reads taken ended (Ok v) = (v.items ≡ taken) × IsReadFor most reads taken ended
AnswersInput most reads taken ended (Err ReadFailed) = (reads ≡ true) × (length taken ≤ most)
AnswersInput most reads taken ended (Err HasMore) = (reads ≡ true) × (length taken ≡ most + 1)
AnswersInput most reads taken ended (Err NoMemory) = (reads ≡ true) × (length taken ≤ most + 1)

-- what it took of the bytes that were left, and what it answers
pub record ReadsInput (most : ℕ) (reads : Bool) (old new : Option (List ℕ)) (result : Result (Vec ℕ Global) InputError) : Type 0 where
  pub taken : List ℕ
  pub consumed : Consumes old new taken
  pub answer : AnswersInput most reads taken (IsAtEnd new) result

-- what was written is the front of a text, and not all of it
abbrev pub IsCutShort : List ℕ → List ℕ → Type 0
IsCutShort written text = (n : ℕ) × (n < length text) × (written ≡ take n text)

-- the statuses of a run that asks nothing of the sink
abbrev pub IsSilent : Status → Type 0
IsSilent ReadFault = ⊤
IsSilent OutOfMemory = ⊤
IsSilent TooLarge = ⊤
IsSilent other = ⊥

module _ {C : Type 0} (p : Program C) where
  -- the words name some command, or one that reads the input
  abbrev pub NamesSome : List (List ℕ) → Type 0
  NamesSome words = (command : C) × p.names words command

  abbrev pub NamesReader : List (List ℕ) → Type 0
  NamesReader words = (command : C) × p.names words command × (p.reads command ≡ true)

  -- the status and the text for these words and all the bytes of an input
  abbrev pub IsAnswer : List (List ℕ) → List ℕ → Status → List ℕ → Type 0
  IsAnswer words bytes Usage text = (NamesSome words → ⊥) × (text ≡ p.usage)
  IsAnswer words bytes status text = (command : C) × p.names words command × p.answers command bytes status text

  -- The status and the text of a run that read these bytes: where the words name no command none was read, and else what the command reads.
  abbrev pub Answers : (most : ℕ) (words : List (List ℕ)) (read : List ℕ) (ended : Type 0) → Status → List ℕ → Type 0
  Answers most words read ended Usage text = (read ≡ []) × IsAnswer words [] Usage text
  Answers most words read ended status text =
      (command : C) × p.names words command × IsReadFor most (p.reads command) read ended × p.answers command read status text

  -- What a run did that read these bytes and wrote those, by its status: in every case but four the whole text was written. No run reads
  -- more than one byte above the most, and one whose command reads no input none.
  abbrev pub IsOutcome : (most : ℕ) (words : List (List ℕ)) (read : List ℕ) (ended : Type 0) (written : List ℕ) → Status → Type 0
  IsOutcome most words read ended written ReadFault = NamesReader words × (length read ≤ most) × (written ≡ [])
  IsOutcome most words read ended written OutOfMemory = NamesSome words × (length read ≤ most + 1) × ((NamesReader words → ⊥) → read ≡ []) × (written ≡ [])
  IsOutcome most words read ended written TooLarge = NamesReader words × (length read ≡ most + 1) × (written ≡ [])
  IsOutcome most words read ended written WriteFault = (status : Status) × (text : List ℕ) × Answers most words read ended status text × IsCutShort written text
  IsOutcome most words read ended written status = Answers most words read ended status written

  -- what a run took of the bytes that were left, and put after what was written
  pub record Outcome (most : ℕ) (words : List (List ℕ)) (left left_new written written_new : Option (List ℕ)) (status : Status) : Type 0 where
    pub read : List ℕ
    pub consumed : Consumes left left_new read
    pub wrote : List ℕ
    pub appended : Appends written written_new wrote
    pub outcome : IsOutcome most words read (IsAtEnd left_new) wrote status
