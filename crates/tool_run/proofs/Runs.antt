-- What a run answers, from what its parts do.
use Rattle.std.proofs.Common.{◌≡◌, ℕ, ◌<◌, List, length, take, refl, subst, true, Option, Result, Vec, Ok, Err}
use Rattle.std.specs.Io.KnownBytes.{Consumes, Appends, IsAtEnd}
use Rattle.std.specs.declared.alloc.Global.{Global}
use Rattle.tool_bytes.specs.Whole.{ReadsWhole}
use Rattle.tool_bytes.specs.declared.ends.InputError.{InputError}
use Rattle.tool_bytes.specs.declared.ends.InputError.TheVariants.{ReadFault as ReadFailed, TooLarge as HasMore, OutOfMemory as NoMemory}
use Rattle.tool_run.specs.Program.{AnswersOnly, IsAnswerStatus, Program}
use Rattle.tool_run.specs.Run.{Answers, IsOutcome, IsReadFor, IsSilent, NamesReader, Outcome, ReadsInput}
use Rattle.tool_verifier.specs.declared.status.Status.{Status}
use Rattle.tool_verifier.specs.declared.status.Status.TheVariants.{Done, Refused, Usage, BadInput, ReadFault, WriteFault, OutOfMemory, TooLarge}

-- a command that reads has read the whole input
pub reads-whole : (most : ℕ) (old new : Option (List ℕ)) (result : Result (Vec ℕ Global) InputError) → ReadsWhole most old new result → ReadsInput most true old new result
reads-whole most old new (Ok v) r = record { taken = r.taken; consumed = r.consumed; answer = (r.answer.0, (r.answer.2, r.answer.1)) }
reads-whole most old new (Err ReadFailed) r = record { taken = r.taken; consumed = r.consumed; answer = (refl, r.answer) }
reads-whole most old new (Err HasMore) r = record { taken = r.taken; consumed = r.consumed; answer = (refl, r.answer) }
reads-whole most old new (Err NoMemory) r = record { taken = r.taken; consumed = r.consumed; answer = (refl, r.answer) }

-- a command's answer is written
pub not-silent : (status : Status) → IsAnswerStatus status → IsSilent status → ⊥
not-silent Done a s = s
not-silent Refused a s = s
not-silent BadInput a s = s
not-silent Usage a s = a
not-silent ReadFault a s = a
not-silent WriteFault a s = a
not-silent OutOfMemory a s = a
not-silent TooLarge a s = a

module _ {C : Type 0} (p : Program C) where
  -- the answer of a command, for what it read
  pub command-answers : (most : ℕ) (words : List (List ℕ)) (read : List ℕ) (ended : Type 0) (command : C) (status : Status) (text : List ℕ)
      → IsAnswerStatus status → p.names words command → IsReadFor most (p.reads command) read ended → p.answers command read status text
      → Answers p most words read ended status text
  command-answers most words read ended command Done text s n r a = (command, n, r, a)
  command-answers most words read ended command Refused text s n r a = (command, n, r, a)
  command-answers most words read ended command BadInput text s n r a = (command, n, r, a)
  command-answers most words read ended command Usage text s n r a = absurd s
  command-answers most words read ended command ReadFault text s n r a = absurd s
  command-answers most words read ended command WriteFault text s n r a = absurd s
  command-answers most words read ended command OutOfMemory text s n r a = absurd s
  command-answers most words read ended command TooLarge text s n r a = absurd s

  -- an answer that was written whole
  pub written-whole : (most : ℕ) (words : List (List ℕ)) (read : List ℕ) (ended : Type 0) (status : Status) (text : List ℕ)
      → IsAnswerStatus status → Answers p most words read ended status text → IsOutcome p most words read ended text status
  written-whole most words read ended Done text s a = a
  written-whole most words read ended Refused text s a = a
  written-whole most words read ended BadInput text s a = a
  written-whole most words read ended Usage text s a = absurd s
  written-whole most words read ended ReadFault text s a = absurd s
  written-whole most words read ended WriteFault text s a = absurd s
  written-whole most words read ended OutOfMemory text s a = absurd s
  written-whole most words read ended TooLarge text s a = absurd s

  -- an answer that was not written whole
  pub cut-short : (most : ℕ) (words : List (List ℕ)) (left left_new written written_new : Option (List ℕ)) (status : Status) (read text : List ℕ) (n : ℕ)
      → Consumes left left_new read → Answers p most words read (IsAtEnd left_new) status text → n < length text → Appends written written_new (take n text)
      → Outcome p most words left left_new written written_new WriteFault
  cut-short most words left left_new written written_new status read text n c a short w =
      record { read = read; consumed = c; wrote = take n text; appended = w; outcome = (status, text, a, (n, short, refl)) }

  -- a fault is no command's answer
  pub no-answer : AnswersOnly p → (command : C) (bytes : List ℕ) (status fault : Status) (text : List ℕ) → (IsAnswerStatus fault → ⊥)
      → p.answers command bytes status text → status ≡ fault → ⊥
  no-answer only command bytes status fault text none a e = none (subst (λ (s : Status). IsAnswerStatus s) e (only command bytes status text a))

  -- a command that doesn't read, where none of the words' commands does
  pub no-reader : (words : List (List ℕ)) (command : C) → p.names words command → (NamesReader p words → ⊥) → p.reads command ≡ true → ⊥
  no-reader words command n none e = none (command, n, e)
