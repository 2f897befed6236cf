-- Answers of the calls that make prover data, for checks in order.
use Rattle.std.specs.Prelude.{List, Result, Ok, Err, ⊤}
use Rattle.p3_field.specs.Checks.{Check, NoneFails, FirstFails}
use Rattle.batch_setup.specs.declared.error.SetupError.{SetupError}
use Rattle.batch_setup.specs.declared.error.SetupError.TheVariants.{LengthMismatch, PreprocessedHeight, Pcs, LookupBudget, OutOfMemory}

-- the error is the refusal of the first check that fails, or says that memory ran out
abbrev pub IsSetupRefusal : {E : Type 0} → List (Check (SetupError E)) → SetupError E → Type 0
IsSetupRefusal cs LengthMismatch = FirstFails cs LengthMismatch
IsSetupRefusal cs (PreprocessedHeight instance) = FirstFails cs (PreprocessedHeight instance)
IsSetupRefusal cs (Pcs phase source) = FirstFails cs (Pcs phase source)
IsSetupRefusal cs (LookupBudget instance log_chunks log_blowup) = FirstFails cs (LookupBudget instance log_chunks log_blowup)
IsSetupRefusal cs OutOfMemory = ⊤

-- Ok exactly where no check fails, and else the refusal of the first that fails; out of memory may come in place of any answer
abbrev pub IsSetUp : {T E : Type 0} → List (Check (SetupError E)) → Result T (SetupError E) → Type 0
IsSetUp cs (Ok x) = NoneFails cs
IsSetUp cs (Err e) = IsSetupRefusal cs e
