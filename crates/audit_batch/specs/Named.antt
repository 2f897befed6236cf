-- What is named of several lists of checks, one after the other, and of the answers of calls.
use Rattle.std.specs.Prelude.{◌≡◌, List, [], ◌∷◌, ◌++◌, Option, Some, None, Result, Ok, Err, ⊤}
use Rattle.batch_statement.specs.declared.error.BatchVerificationError.{BatchVerificationError}
use Rattle.batch_statement.specs.declared.error.BatchVerificationError.TheVariants.{OutOfMemory}
use Rattle.audit_batch.specs.Asked.{Asked, AreNamed}

-- after these refusals those of the checks that are asked and fail
abbrev pub AreNamedAfter : {R : Type 0} → List R → List (Asked R) → List R → Type 0
AreNamedAfter {R} before qs after = (es : List R) × AreNamed qs es × (after ≡ before ++ es)

-- the error, where there is one
abbrev pub errors_of : {T R : Type 0} → Result T R → List R
errors_of (Ok x) = []
errors_of (Err e) = e ∷ []

-- the value, where there is one
abbrev pub value_of : {T R : Type 0} → Result T R → Option T
value_of (Ok x) = Some x
value_of (Err e) = None

-- a call didn't run out of memory
abbrev pub HasMemory : {T R : Type 0} → Result T (BatchVerificationError R) → Type 0
HasMemory (Ok x) = ⊤
HasMemory (Err e) = e ≡ OutOfMemory → ⊥
