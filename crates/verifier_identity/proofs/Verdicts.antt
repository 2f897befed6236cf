-- From what the code computes to the first of the two checks that fails.
use Rattle.std.proofs.Common.{◌≡◌, ℕ, Bool, false, ◌↔◌, List, map, refl, sym, ◌∙◌, ap, inl, inr}
use Rattle.std.specs.Prelude.{Option, IsTrue}
use Rattle.p3_field.specs.Checks.{NoneFails, FirstFails}
use Rattle.p3_field.specs.Ring.{RingLaws}
use Rattle.p3_field.specs.Field.{TwoAdic, Extension, FieldLaws}
use Rattle.p3_field.specs.Domain.{CosetData}
use Rattle.air_core.specs.Tree.{Tree, eval_tree}
use Rattle.p3_uni_stark.specs.Fold.{fold}
use Rattle.p3_uni_stark.specs.declared.error.VerificationError.TheVariants.{OodPointInDomain, OodEvaluationMismatch}
use Rattle.verifier_folder.specs.FolderState.{FolderValuesWithLookups, reading_of}
use Rattle.verifier_identity.specs.Identity.{OpenedTable, vanishing_at, IsInDomain, opened_at, folded_at, Identity, identity_checks}
use Rattle.verifier_identity.proofs.Quotients.{quotient_is, not_both}

module _ {F E : Type 0} (f : TwoAdic F) (e : Extension F E) (d : CosetData F) (alpha zeta : E) (o : OpenedTable F E) (trees : List (Tree F)) (quotient : E) where
  -- the verdicts
  module _ (R : Type 0) (index : Option ℕ) where
    pub point_refused : IsInDomain f e d zeta → FirstFails (identity_checks f e {R = R} index d alpha zeta o trees quotient) OodPointInDomain
    unfolding identity_checks FirstFails
    point_refused h = inr ((λ n. n h), refl)

    pub mismatch_refused : (IsInDomain f e d zeta → ⊥) → (Identity f e d alpha zeta o trees quotient → ⊥)
        → FirstFails (identity_checks f e {R = R} index d alpha zeta o trees quotient) (OodEvaluationMismatch index)
    unfolding identity_checks FirstFails
    mismatch_refused n m = inl (n, inr (m, refl))

    pub identity_passes : (IsInDomain f e d zeta → ⊥) → Identity f e d alpha zeta o trees quotient → NoneFails (identity_checks f e {R = R} index d alpha zeta o trees quotient)
    unfolding identity_checks NoneFails
    identity_passes n i = (n, (i, tt))

  -- the point isn't one of the domain's where the vanishing polynomial's value was told not to be zero
  pub outside_is : (value : E) (told : Bool) → value ≡ vanishing_at f e d zeta → (value ≡ e.ring.zero → IsTrue told) → told ≡ false → IsInDomain f e d zeta → ⊥
  outside_is value told is tells not_told h = not_both told not_told (tells (is ∙ h))

  -- a folder that reads the opened values folds what the identity says
  folded_is : (p : FolderValuesWithLookups F E) (folded : E) → p ≡ opened_at f e d alpha zeta o → folded ≡ fold e.ring p.opened.alpha (map (eval_tree (reading_of e.ring e.embed p)) trees)
      → folded ≡ folded_at f e d alpha zeta o trees
  unfolding folded_at
  folded_is p folded h k = k ∙ ap (λ (q : FolderValuesWithLookups F E). fold e.ring q.opened.alpha (map (eval_tree (reading_of e.ring e.embed q)) trees)) h

  -- the fold over the vanishing polynomial's value is the quotient exactly where the identity holds
  pub divided_is : RingLaws e.ring → (inv : E → E) → FieldLaws e.ring inv → (p : FolderValuesWithLookups F E) (folded inverse divided : E) → (IsInDomain f e d zeta → ⊥)
      → p ≡ opened_at f e d alpha zeta o → folded ≡ fold e.ring p.opened.alpha (map (eval_tree (reading_of e.ring e.embed p)) trees) → inverse ≡ inv (vanishing_at f e d zeta)
      → divided ≡ e.ring.mul folded inverse → (divided ≡ quotient) ↔ Identity f e d alpha zeta o trees quotient
  divided_is L inv W p folded inverse divided outside reads folds inverts divides =
      let v = vanishing_at f e d zeta in
      let sum = folded_at f e d alpha zeta o trees in
      let is = quotient_is e.ring L inv W sum v quotient outside in
      let sums : folded ≡ sum = folded_is p folded reads folds in
      let whole : divided ≡ e.ring.mul sum (inv v) = cc in
      ((λ q. is.0 (sym whole ∙ q)), (λ i. whole ∙ is.1 i))
