-- The answer of the whole work from the answers of its stages, in order.
use Rattle.std.proofs.Common.{List, ◌++◌, ◌≡◌, ◌∙◌, ap, subst}
use Rattle.std.proofs.lemmas.List.{append_assoc}
use Rattle.p3_field.specs.Checks.{Check, FirstFails, NoneFails, in_turn}
use Rattle.p3_field.specs.Laws.Checks.{none_append}
use Rattle.prover_answer.specs.Backend.{ProverBackend}
use Rattle.prover_answer.specs.Batch.{Batch, table_count}
use Rattle.prover_answer.specs.Proving.{bound_part, extension_part, fraction_part, lookup_part, ood_part, opening_part, permutation_part, proving_checks, quotient_part, trace_part}
use Rattle.prover_answer.specs.Verdict.{FirstRefused, IsAnswerRefusal, IsProverRefusal}
use Rattle.prover_answer.specs.Laws.Verdicts.{answer_before, answer_past, refused_here, refusal_is}
use Rattle.prover_answer.specs.declared.error.ProvingError.{ProvingError}
use Rattle.prover_answer.specs.declared.error.ProvingError.TheVariants.{Pcs, MultiplicityBound, LookupDenominatorZero, WitnessNotFound, OutOfMemory}
use Rattle.prover_openings.specs.Asked.{RoundsProverData}
use Rattle.prover_openings.specs.Check.{opening_request_checks}
use Rattle.prover_openings.specs.Laws.Openings.{opening_granted, opening_refused}

-- where what first fails of some checks is a refusal of others, so is the answer
told_along : {R : Type 0} (xs ys : List (Check (ProvingError R))) (e : ProvingError R) → ((d : ProvingError R) → FirstFails xs d → FirstRefused ys d) → IsProverRefusal xs e → IsAnswerRefusal ys e
told_along xs ys (Pcs p s) f v = f (Pcs p s) v
told_along xs ys (MultiplicityBound b) f v = f (MultiplicityBound b) v
told_along xs ys (LookupDenominatorZero i r) f v = f (LookupDenominatorZero i r) v
told_along xs ys (WitnessNotFound s) f v = f (WitnessNotFound s) v
told_along xs ys OutOfMemory f v = tt

module _ {S F E C D P R : Type 0} (k : ProverBackend S F E C D P R) (b : Batch S F E C) where
  -- the checks between the commitment to the traces and the openings
  abbrev drawn_part : List (Check (ProvingError R))
  drawn_part = (lookup_part b ++ (fraction_part b ++ permutation_part k b)) ++ ((in_turn (table_count b) (extension_part k b) ++ quotient_part k b) ++ ood_part b)

  -- all checks are those of the stages
  in_order : bound_part b ++ (trace_part k b ++ (drawn_part ++ opening_part k b)) ≡ proving_checks k b
  in_order =
      let extensions = in_turn (table_count b) (extension_part k b) in
      let first : (extensions ++ quotient_part k b) ++ ood_part b ≡ extensions ++ (quotient_part k b ++ ood_part b) = append_assoc extensions (quotient_part k b) (ood_part b) in
      let second : ((extensions ++ quotient_part k b) ++ ood_part b) ++ opening_part k b ≡ extensions ++ (quotient_part k b ++ (ood_part b ++ opening_part k b)) =
      ap (λ xs. xs ++ opening_part k b) first ∙ append_assoc extensions (quotient_part k b ++ ood_part b) (opening_part k b) in
      ap (λ xs. bound_part b ++ (trace_part k b ++ (lookup_part b ++ (fraction_part b ++ (permutation_part k b ++ xs))))) second

  pub bound_refused : (e : ProvingError R) → IsProverRefusal (bound_part b {R = R}) e → IsAnswerRefusal (proving_checks k b) e
  bound_refused e v = answer_before (bound_part b) _ e (refusal_is (bound_part b) e v)

  pub trace_refused : (e : ProvingError R) → NoneFails (bound_part b {R = R}) → IsProverRefusal (trace_part k b) e → IsAnswerRefusal (proving_checks k b) e
  trace_refused e bounded v = answer_past (bound_part b) _ e bounded (answer_before (trace_part k b) _ e (refusal_is (trace_part k b) e v))

  pub drawn_refused : (e : ProvingError R) → NoneFails (bound_part b {R = R}) → NoneFails (trace_part k b) → IsAnswerRefusal drawn_part e → IsAnswerRefusal (proving_checks k b) e
  drawn_refused e bounded committed v =
      subst (λ cs. IsAnswerRefusal cs e) in_order (answer_past (bound_part b) _ e bounded (answer_past (trace_part k b) _ e committed (answer_before drawn_part _ e v)))

  module _ (kept : RoundsProverData D) where
    opening_told : (e : ProvingError R) → IsProverRefusal (opening_request_checks k b kept) e → IsAnswerRefusal (opening_part k b) e
    opening_told e v = told_along (opening_request_checks k b kept) (opening_part k b) e (λ d f. refused_here _ _ d (opening_refused k b kept d f)) v

    pub open_refused : (e : ProvingError R) → NoneFails (bound_part b {R = R}) → NoneFails (trace_part k b) → NoneFails drawn_part → IsProverRefusal (opening_request_checks k b kept) e → IsAnswerRefusal (proving_checks k b) e
    open_refused e bounded committed drawn v =
        subst (λ cs. IsAnswerRefusal cs e) in_order
        (answer_past (bound_part b) _ e bounded (answer_past (trace_part k b) _ e committed (answer_past drawn_part _ e drawn (opening_told e v))))

    pub all_granted : NoneFails (bound_part b {R = R}) → NoneFails (trace_part k b) → NoneFails drawn_part → NoneFails (opening_request_checks k b kept) → NoneFails (proving_checks k b)
    all_granted bounded committed drawn opened =
        subst NoneFails in_order (none_append (bound_part b) _ bounded (none_append (trace_part k b) _ committed (none_append drawn_part _ drawn (opening_granted k b kept opened))))
