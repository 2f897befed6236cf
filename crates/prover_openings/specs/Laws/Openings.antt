-- What the check of an opening says of the requests that a prover may make.
use Rattle.std.proofs.Common.{List, inl, inr}
use Rattle.p3_field.specs.Checks.{FirstFails, NoneFails}
use Rattle.p3_field.specs.Laws.Checks.{holds_alone, none_alone}
use Rattle.commit_core.specs.Claims.{Request}
use Rattle.prover_answer.specs.Backend.{ProverBackend}
use Rattle.prover_answer.specs.Batch.{Batch}
use Rattle.prover_answer.specs.Proving.{AreAsked, IsGroundOf, IsPcsRefusal, opening_part}
use Rattle.prover_answer.specs.declared.error.ProvingError.{ProvingError}
use Rattle.batch_setup.specs.declared.error.ProverPhase.TheVariants.{Opening}
use Rattle.prover_openings.specs.Asked.{RoundsProverData, asked_of}
use Rattle.prover_openings.specs.Check.{opening_request_checks}

module _ {S F E C D P R : Type 0} (k : ProverBackend S F E C D P R) (b : Batch S F E C) (kept : RoundsProverData D) where
  -- where it doesn't fail, some requests that are asked aren't refused
  pub opening_granted : NoneFails (opening_request_checks k b kept) → NoneFails (opening_part k b)
  opening_granted h = none_alone _ (λ w z G. let all = holds_alone _ h w z G in (asked_of b kept w z, all.0, all.1))

  -- and where it is refused, some are, for the cause that is named
  pub opening_refused : (e : ProvingError R) → FirstFails (opening_request_checks k b kept) e
      → (w : _) × (z : _) × IsGroundOf b w z × ((requests : List (Request D E)) × AreAsked k b w z requests × IsPcsRefusal Opening (k.open_fault requests) e)
  unfolding FirstFails
  opening_refused e h = elim h [
    | inl t ↦ absurd t.1
    | inr t ↦ (t.1.0, t.1.1, t.1.2, (asked_of b kept t.1.0 t.1.1, t.1.3, t.1.4))
  ]
