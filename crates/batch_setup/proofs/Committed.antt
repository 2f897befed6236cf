-- What is committed of one table more, and the check of what is committed.
use Rattle.std.proofs.Common.{◌≡◌, ℕ, ◌+◌, List, [], ◌∷◌, ◌++◌, length, get_or, refl, ◌∙◌, ap, sym, inr, add-one, arith}
use Rattle.std.specs.Prelude.{Option}
use Rattle.commit_core.specs.Failure.{NoneOf}
use Rattle.p3_field.specs.Checks.{NoneFails, FirstFails}
use Rattle.p3_field.specs.Domain.{CosetData}
use Rattle.p3_matrix.specs.Matrix.{Rows}
use Rattle.batch_setup.specs.Packed.{Source}
use Rattle.batch_setup.specs.Preprocessed.{committed_below, commit_checks, on_domain, trace_at}
use Rattle.batch_setup.specs.declared.error.ProverPhase.TheVariants.{PreprocessingCommitment}
use Rattle.batch_setup.specs.declared.error.SetupError.TheVariants.{Pcs}

pub committed_more : {F : Type 0} (one : F) (sources : List (Source F)) (bits : List ℕ) (i : ℕ) (es fs : List (CosetData F × Rows F)) (t : Option (Rows F))
    → es ≡ committed_below one sources bits i → t ≡ trace_at sources i → fs ≡ es ++ on_domain one (get_or bits i 0) t → fs ≡ committed_below one sources bits (i + 1)
committed_more one sources bits i es fs t e q f =
    f ∙ ap (λ xs. xs ++ on_domain one (get_or bits i 0) t) e
    ∙ ap (λ u. committed_below one sources bits i ++ on_domain one (get_or bits i 0) u) q
    ∙ sym (ap (committed_below one sources bits) (add-one i))

module _ {T E : Type 0} (fault : List T → E → Type 0) where
  pub none_of_nothing : (es : List T) → length es ≡ 0 → NoneFails (commit_checks fault es)
  unfolding NoneFails
  none_of_nothing [] e = tt
  none_of_nothing (x ∷ es) e = absurd (omega (arith, e))

  pub none_of_granted : (es : List T) → NoneOf (fault es) → NoneFails (commit_checks fault es)
  unfolding NoneFails
  none_of_granted [] h = tt
  none_of_granted (x ∷ es) h = (h, tt)

  pub first_of_refused : (es : List T) (source : E) → (length es ≡ 0 → ⊥) → fault es source → FirstFails (commit_checks fault es) (Pcs PreprocessingCommitment source)
  unfolding FirstFails
  first_of_refused [] source n h = absurd (n refl)
  first_of_refused (x ∷ es) source n h = inr ((λ none. none source h), h)
