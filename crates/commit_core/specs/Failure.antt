-- Refusals of a commitment scheme.
use Rattle.std.specs.Prelude.{Result, Ok, Err, ⊤, ◌⊎◌}
use Rattle.commit_core.specs.declared.failure.PcsFailure.{PcsFailure}
use Rattle.commit_core.specs.declared.failure.PcsFailure.TheVariants.{OutOfMemory, Refused}

-- there is no cause to refuse
abbrev pub NoneOf : {E : Type 0} → (E → Type 0) → Type 0
NoneOf faults = (e : _) → faults e → ⊥

-- Where something doesn't hold, there is a cause: that it doesn't hold and that there is no cause can't both be.
abbrev pub FaultUnless : {E : Type 0} → Type 0 → (E → Type 0) → Type 0
FaultUnless holds faults = (holds → ⊥) → NoneOf faults → ⊥

-- The answer is a refusal exactly where there is a cause, and names it. Running out of memory may come in place of any
-- answer.
abbrev pub RefusedBy : {T E : Type 0} → (E → Type 0) → Result T (PcsFailure E) → Type 0
RefusedBy faults (Ok w) = NoneOf faults
RefusedBy faults (Err OutOfMemory) = ⊤
RefusedBy faults (Err (Refused e)) = faults e

-- what holds of the cause, if the answer is a refusal
abbrev pub IfRefused : {T E : Type 0} → Result T (PcsFailure E) → (E → Type 0) → Type 0
IfRefused (Ok w) p = ⊤
IfRefused (Err OutOfMemory) p = ⊤
IfRefused (Err (Refused e)) p = p e

-- A verifier's answer: it accepts where the proof opens the claims, and names the fault where it refuses.
abbrev pub VerifiedBy : {T E : Type 0} → Type 0 → (E → Type 0) → Result T (PcsFailure E) → Type 0
VerifiedBy opens faults (Ok w) = opens
VerifiedBy opens faults (Err OutOfMemory) = ⊤
VerifiedBy opens faults (Err (Refused e)) = faults e

-- Of two calls, where the second takes what the first gave: the first is refused for this cause, or the second is, of
-- something that the first may give.
abbrev pub FaultInTurn : {U E : Type 0} → (E → Type 0) → (U → Type 0) → (U → E → Type 0) → E → Type 0
FaultInTurn first gives second e = first e ⊎ (NoneOf first × ((u : _) × gives u × second u e))

-- neither is refused
abbrev pub NoneInTurn : {U E : Type 0} → (E → Type 0) → (U → Type 0) → (U → E → Type 0) → Type 0
NoneInTurn first gives second = NoneOf first × ((u : _) × gives u × NoneOf (second u))
