-- Answers of a prover, for checks in order.
use Rattle.std.specs.Prelude.{List, [], ◌∷◌, Result, Ok, Err, ◌⊎◌, ⊤}
use Rattle.p3_field.specs.Checks.{Check, NoneFails, FirstFails}
use Rattle.prover_answer.specs.declared.error.ProvingError.{ProvingError}
use Rattle.prover_answer.specs.declared.error.ProvingError.TheVariants.{Pcs, MultiplicityBound, LookupDenominatorZero, WitnessNotFound, OutOfMemory}

-- the error is such, or says that memory ran out
abbrev pub OrOutOfMemory : {R : Type 0} → (ProvingError R → Type 0) → ProvingError R → Type 0
OrOutOfMemory P (Pcs phase source) = P (Pcs phase source)
OrOutOfMemory P (MultiplicityBound bus) = P (MultiplicityBound bus)
OrOutOfMemory P (LookupDenominatorZero instance row) = P (LookupDenominatorZero instance row)
OrOutOfMemory P (WitnessNotFound step) = P (WitnessNotFound step)
OrOutOfMemory P OutOfMemory = ⊤

-- the error is the refusal of the first check that fails, or says that memory ran out
abbrev pub IsProverRefusal : {R : Type 0} → List (Check (ProvingError R)) → ProvingError R → Type 0
IsProverRefusal cs e = OrOutOfMemory (FirstFails cs) e

-- Ok exactly where no check fails, and else the refusal of the first that fails; out of memory may come in place of any answer
abbrev pub IsProverVerdict : {T R : Type 0} → List (Check (ProvingError R)) → Result T (ProvingError R) → Type 0
IsProverVerdict cs (Ok x) = NoneFails cs
IsProverVerdict cs (Err e) = IsProverRefusal cs e

-- The checks before one hold, and it is refused with e, which says why. A check that speaks of what some prover data is asked holds where there is such data
-- that isn't refused, and is refused where there is such data that is.
unfoldable pub FirstRefused : {R : Type 0} → List (Check R) → R → Type 0
FirstRefused [] e = ⊥
FirstRefused (c ∷ cs) e = (c.holds × FirstRefused cs e) ⊎ c.refusal e

abbrev pub IsAnswerRefusal : {R : Type 0} → List (Check (ProvingError R)) → ProvingError R → Type 0
IsAnswerRefusal cs e = OrOutOfMemory (FirstRefused cs) e

-- the answer of the whole work: Ok where the checks hold, and else the refusal of one after checks that hold
abbrev pub IsProverAnswer : {T R : Type 0} → List (Check (ProvingError R)) → Result T (ProvingError R) → Type 0
IsProverAnswer cs (Ok x) = NoneFails cs
IsProverAnswer cs (Err e) = IsAnswerRefusal cs e
