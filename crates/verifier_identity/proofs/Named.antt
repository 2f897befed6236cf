-- The identity's two checks by a table's number, from those of the table alone.
use Rattle.std.proofs.Common.{◌≡◌, ℕ, List, None, Some, map, refl, ap, inl, inr}
use Rattle.p3_field.specs.Checks.{NoneFails, FirstFails}
use Rattle.p3_field.specs.Field.{TwoAdic, Extension}
use Rattle.p3_field.specs.Domain.{CosetData}
use Rattle.air_core.specs.Tree.{Tree}
use Rattle.p3_uni_stark.specs.declared.error.VerificationError.{VerificationError}
use Rattle.p3_uni_stark.specs.declared.error.VerificationError.TheVariants.{OodPointInDomain, OodEvaluationMismatch}
use Rattle.verifier_identity.specs.Identity.{OpenedTable, identity_checks}
use Rattle.batch_statement.specs.declared.error.BatchVerificationError.TheVariants.{Verification}
use Rattle.verifier_identity.specs.TableIdentity.{verified}

not_point : {S : Type 0} (x : VerificationError S) → x ≡ OodEvaluationMismatch None → x ≡ OodPointInDomain → ⊥
not_point x e h = cc

module _ {F E : Type 0} (R S : Type 0) (f : TwoAdic F) (e : Extension F E) (i : ℕ) (d : CosetData F) (alpha zeta : E) (o : OpenedTable F E) (trees : List (Tree F)) (quotient : E) where
  pub named_pass : NoneFails (identity_checks f e {R = S} None d alpha zeta o trees quotient)
      → NoneFails (map verified (identity_checks f e {R = R} (Some i) d alpha zeta o trees quotient))
  unfolding identity_checks NoneFails
  named_pass h = h

  pub named_refusal : (x : VerificationError S) (y : VerificationError R) → (x ≡ OodPointInDomain → y ≡ OodPointInDomain) → ((x ≡ OodPointInDomain → ⊥) → y ≡ OodEvaluationMismatch (Some i))
      → FirstFails (identity_checks f e {R = S} None d alpha zeta o trees quotient) x
      → FirstFails (map verified (identity_checks f e {R = R} (Some i) d alpha zeta o trees quotient)) (Verification y)
  unfolding identity_checks FirstFails
  named_refusal x y point mismatch h = elim h [
    | inl t ↦ elim t.1 [
      | inl u ↦ absurd u.1
      | inr u ↦ inl (t.0, inr (u.0, (OodEvaluationMismatch (Some i), refl, ap Verification (mismatch (not_point x u.1)))))
    ]
    | inr t ↦ inr (t.0, (OodPointInDomain, refl, ap Verification (point t.1)))
  ]
