-- An input read to its end, and a text written whole.
use Rattle.std.specs.Prelude.{◌≡◌, ℕ, ◌+◌, ◌<◌, ◌≤◌, List, length, take, Option, Result, MatchResult, Vec, Ok, Err}
use Rattle.std.specs.Io.KnownBytes.{Consumes, Appends, IsAtEnd}
use Rattle.std.specs.declared.alloc.Global.{Global}
use Rattle.tool_bytes.specs.declared.ends.InputError.{InputError}
use Rattle.tool_bytes.specs.declared.ends.InputError.TheVariants.{ReadFault, TooLarge, OutOfMemory}

-- what a read answers by the bytes that it took, never more than one above the most: all of them at the input's end, and `TooLarge`
-- exactly where they are one more than the most
abbrev pub AnswersTaken : (most : ℕ) (taken : List ℕ) (ended : Type 0) → Result (Vec ℕ Global) InputError → Type 0
AnswersTaken most taken ended (Ok v) = (v.items ≡ taken) × (length taken ≤ most) × ended
AnswersTaken most taken ended (Err ReadFault) = length taken ≤ most
AnswersTaken most taken ended (Err TooLarge) = length taken ≡ most + 1
AnswersTaken most taken ended (Err OutOfMemory) = length taken ≤ most + 1

-- what a read to the end took of the bytes that were left, and what it answers
pub record ReadsWhole (most : ℕ) (old new : Option (List ℕ)) (result : Result (Vec ℕ Global) InputError) : Type 0 where
  pub taken : List ℕ
  pub consumed : Consumes old new taken
  pub answer : AnswersTaken most taken (IsAtEnd new) result

-- a text written whole at `Ok`, and at `Err` only a part of it, its front
abbrev pub WritesWhole : {T E : Type 0} → Option (List ℕ) → Option (List ℕ) → List ℕ → Result T E → Type 0
WritesWhole old new text result = MatchResult result
    (λ _. Appends old new text)
    (λ _. (n : ℕ) × (n < length text) × Appends old new (take n text))
