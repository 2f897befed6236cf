-- An error but out of memory leaves a state as it was.
use Rattle.std.proofs.Common.{◌≡◌, ◌⊎◌, Result, Ok, Err, inl, sym, subst}
use Rattle.std.specs.Prelude.{IsErrAnd}
use Rattle.prover_answer.specs.declared.error.ProvingError.{ProvingError}
use Rattle.prover_answer.specs.declared.error.ProvingError.TheVariants.{OutOfMemory}
use Rattle.prover_openings.specs.Check.{KeepsState}

-- what a `?` returns is the error of the call before it
pub kept_by_exit : {T R S : Type 0} (e : ProvingError R) (r : Result T (ProvingError R)) (new old : S) → IsErrAnd r (λ y. y ≡ e) → e ≡ OutOfMemory ⊎ new ≡ old → KeepsState r new old
kept_by_exit e (Err y) new old p v = subst (λ x. x ≡ OutOfMemory ⊎ new ≡ old) (sym p) v
kept_by_exit e (Ok t) new old p v = absurd p

pub kept_by_memory : {T R S : Type 0} (r : Result T (ProvingError R)) (new old : S) → IsErrAnd r (λ y. y ≡ OutOfMemory) → KeepsState r new old
kept_by_memory (Err y) new old p = inl p
kept_by_memory (Ok t) new old p = absurd p
