-- The checks of a commitment to what may be nothing.
use Rattle.std.proofs.Common.{◌≡◌, List, [], ◌∷◌, length, Some, refl, arith}
use Rattle.p3_field.specs.Checks.{NoneFails}
use Rattle.batch_setup.specs.declared.error.ProverPhase.{ProverPhase}
use Rattle.prover_answer.specs.Batch.{CommitsToSome}
use Rattle.prover_answer.specs.Proving.{fault_of_some}
use Rattle.prover_answer.specs.Verdict.{IsProverRefusal}
use Rattle.prover_answer.specs.declared.error.ProvingError.{ProvingError}
use Rattle.prover_commits.specs.Commitment.{commit_part}

module _ {M R : Type 0} (phase : ProverPhase) (fault : List M → R → Type 0) where
  -- of nothing nothing is asked
  pub none_of_nothing : (ms : List M) → length ms ≡ 0 → NoneFails (commit_part phase (fault_of_some fault) ms)
  unfolding NoneFails
  none_of_nothing [] h = (λ e f. f, tt)
  none_of_nothing (m ∷ ms) h = absurd (omega (arith, h))

  -- of something it is what is asked of all
  pub none_of_some : (ms : List M) → NoneFails (commit_part phase fault ms) → NoneFails (commit_part phase (fault_of_some fault) ms)
  unfolding NoneFails
  none_of_some [] h = (λ e f. f, tt)
  none_of_some (m ∷ ms) h = h

  pub refused_of_some : (ms : List M) (e : ProvingError R) → (length ms ≡ 0 → ⊥) → IsProverRefusal (commit_part phase fault ms) e → IsProverRefusal (commit_part phase (fault_of_some fault) ms) e
  refused_of_some [] e some h = absurd (some refl)
  refused_of_some (m ∷ ms) e some h = h

pub some_kept : {M X : Type 0} (commits : List M → X → Type 0) (ms : List M) (x : X) → (length ms ≡ 0 → ⊥) → commits ms x → CommitsToSome commits ms (Some x)
some_kept commits [] x some h = absurd (some refl)
some_kept commits (m ∷ ms) x some h = h
