-- A verifier's answer for a list of checks.
use Rattle.std.specs.Prelude.{List, Result, Ok, Err, ⊤}
use Rattle.p3_field.specs.Checks.{Check, NoneFails, FirstFails}
use Rattle.batch_statement.specs.declared.error.BatchVerificationError.{BatchVerificationError}
use Rattle.batch_statement.specs.declared.error.BatchVerificationError.TheVariants.{Verification, Lookup, Transcript, OutOfMemory}

-- where no memory is taken: Ok exactly where no check fails, and else the refusal of the first that fails
abbrev pub IsDecided : {T R : Type 0} → List (Check R) → Result T R → Type 0
IsDecided cs (Ok x) = NoneFails cs
IsDecided cs (Err e) = FirstFails cs e

-- the error is the refusal of the first check that fails, or says that memory ran out
abbrev pub IsRefusal : {R : Type 0} → List (Check (BatchVerificationError R)) → BatchVerificationError R → Type 0
IsRefusal cs (Verification e) = FirstFails cs (Verification e)
IsRefusal cs (Lookup e) = FirstFails cs (Lookup e)
IsRefusal cs (Transcript e) = FirstFails cs (Transcript e)
IsRefusal cs OutOfMemory = ⊤

-- where memory is taken: out of memory may come in place of any answer
abbrev pub IsVerdict : {T R : Type 0} → List (Check (BatchVerificationError R)) → Result T (BatchVerificationError R) → Type 0
IsVerdict cs (Ok x) = NoneFails cs
IsVerdict cs (Err e) = IsRefusal cs e
