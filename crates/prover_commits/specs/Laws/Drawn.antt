-- The check of a commitment to permutation columns, for the value that is ground: it is the batch's.
use Rattle.std.proofs.Common.{◌≡◌, List, [], ◌∷◌, Option, inl, inr, sym, ◌∙◌, ap, subst}
use Rattle.p3_field.specs.Checks.{Check, FirstFails, NoneFails}
use Rattle.p3_field.specs.Domain.{CosetData}
use Rattle.p3_matrix.specs.Matrix.{Rows}
use Rattle.commit_core.specs.Failure.{NoneOf}
use Rattle.batch_setup.specs.declared.error.ProverPhase.TheVariants.{PermutationCommitment}
use Rattle.law_honest.specs.HonestProof.{AreCanonical}
use Rattle.law_honest.specs.Laws.Ground.{one_lookup}
use Rattle.prover_answer.specs.Batch.{Batch, all_permutations}
use Rattle.prover_answer.specs.Proving.{IsPairGroundOf, IsPcsRefusal, fault_of_some}
use Rattle.prover_answer.specs.Verdict.{IsProverRefusal}
use Rattle.prover_answer.specs.Laws.Verdicts.{refusal_along}
use Rattle.prover_answer.specs.declared.error.ProvingError.{ProvingError}
use Rattle.prover_commits.specs.Commitment.{commit_part}

module _ {S F E C R : Type 0} (b : Batch S F E C) (fault : List (CosetData F × Rows F) → R → Type 0) (K : AreCanonical b.setting.field.ring b.setting.order b.prover.canonical) (columns : List (CosetData F × Rows F))
    (w : Option F) (found : IsPairGroundOf b w) (own : columns ≡ all_permutations b w) where
  -- they are the columns for whatever value is ground
  same : (v : Option F) → IsPairGroundOf b v → columns ≡ all_permutations b v
  same v also = own ∙ ap (all_permutations b) (one_lookup b.setting b.prover b.statement b.traces b.degree_bits K w v found also)

  -- the check of their commitment
  abbrev drawn_part : List (Check (ProvingError R))
  drawn_part = record {
    refusal = λ e. (v : Option F) × IsPairGroundOf b v × IsPcsRefusal PermutationCommitment (fault_of_some fault (all_permutations b v)) e;
    holds = (v : Option F) → IsPairGroundOf b v → NoneOf (fault_of_some fault (all_permutations b v));
  } ∷ []

  first_drawn : (e : ProvingError R) → FirstFails (commit_part PermutationCommitment (fault_of_some fault) columns) e → FirstFails drawn_part e
  unfolding FirstFails
  first_drawn e f = elim f [
    | inl t ↦ absurd t.1
    | inr t ↦ inr (
      (λ holds. t.0 (subst (λ ms. NoneOf (fault_of_some fault ms)) (sym own) (holds w found))),
      (w, found, subst (λ ms. IsPcsRefusal PermutationCommitment (fault_of_some fault ms) e) own t.1),
    )
  ]

  -- where the backend commits to them, the batch's check holds
  pub drawn_granted : NoneFails (commit_part PermutationCommitment (fault_of_some fault) columns) → NoneFails drawn_part
  unfolding NoneFails
  drawn_granted h = ((λ v also. subst (λ ms. NoneOf (fault_of_some fault ms)) (same v also) h.0), tt)

  -- and where it refuses, so is the batch
  pub drawn_refused : (e : ProvingError R) → IsProverRefusal (commit_part PermutationCommitment (fault_of_some fault) columns) e → IsProverRefusal drawn_part e
  drawn_refused e h = refusal_along (commit_part PermutationCommitment (fault_of_some fault) columns) drawn_part e first_drawn h
