-- What a prover asks to be opened for the one pair of grinding values, and what it gets.
use Rattle.std.proofs.Common.{◌≡◌, ℕ, ◌^◌, ◌<◌, inl, inr, suc, Bool, false, List, [], ◌∷◌, map, Option, sym, ◌∙◌, subst, arith}
use Rattle.std.specs.Prelude.{All}
use Rattle.std.proofs.lemmas.List.Elements.{All-cons, All-map}
use Rattle.p3_field.specs.Domain.{CosetData, point}
use Rattle.p3_field.specs.Checks.{FirstFails, NoneFails}
use Rattle.p3_field.specs.Laws.Checks.{holds_alone, none_alone}
use Rattle.p3_field.specs.Poly.{tabulate}
use Rattle.p3_matrix.specs.Matrix.{Rows}
use Rattle.air_core.specs.Shape.{HasColumns}
use Rattle.commit_core.specs.Claims.{CommitmentClaim, Request}
use Rattle.commit_core.specs.Commitments.{AreOpenedCommitments, AvoidAll, OpenedCommitment, IsCommitment, IsOpening}
use Rattle.commit_core.specs.Failure.{NoneOf}
use Rattle.prover_answer.specs.Backend.{ProverBackend}
use Rattle.prover_answer.specs.Batch.{Batch, HasProverData, IsTracedAll, log_parts_at, preprocessed_all, table_at, table_count}
use Rattle.prover_answer.specs.Proving.{AreAsked, AvoidsExcluded, IsGroundOf, IsPcsRefusal}
use Rattle.prover_answer.specs.Verdict.{IsProverRefusal}
use Rattle.prover_answer.specs.Laws.Verdicts.{refusal_along}
use Rattle.prover_answer.specs.declared.error.ProvingError.{ProvingError}
use Rattle.batch_setup.specs.declared.error.ProverPhase.TheVariants.{Opening}
use Rattle.batch_statement.specs.Words.{is_there}
use Rattle.batch_statement.specs.Proof.{OpenedWithLookups}
use Rattle.law_valid.specs.Traced.{declared}
use Rattle.law_committed.specs.Fields.{FieldsLaws}
use Rattle.law_honest.specs.HonestProof.{AreCanonical, alpha, challenges_at, honest_claims, opened_of, opening_state, zeta}
use Rattle.law_honest.specs.Laws.Ground.{one_lookup, one_ood}
use Rattle.law_acceptance.specs.Rounds.{AskFor, OpenedMatrix, Round, honest_rounds, values_in_rounds}
use Rattle.law_acceptance.specs.Laws.Opened.{opening_taken, opening_values}
use Rattle.law_acceptance.specs.Laws.Rounds.{ArePaired, paired_from}
use Rattle.prover_openings.specs.Asked.{RoundsProverData, asked_of}
use Rattle.prover_openings.specs.Check.{IsReady, opening_request_checks}
use Rattle.prover_openings.specs.Taken.{round_values, taken_at}
use Rattle.prover_openings.proofs.Asking.{ask, held_all, made_all}
use Rattle.prover_openings.proofs.Given.{kept_there}
use Rattle.prover_openings.proofs.Taking.{tables_opened}

-- points that rounds avoid are avoided by what asks for them
avoided : {F E C D : Type 0} (excludes : E → Type 0) (rs : List (Round F E C)) (qs : List (Request D E)) → ArePaired (λ (r : Round F E C) (q : Request D E). q.points ≡ map (λ (o : OpenedMatrix F E). o.points) r.matrices) rs qs
    → All (λ (r : Round F E C). All (λ (o : OpenedMatrix F E). All (λ x. excludes x → ⊥) o.points) r.matrices) rs → AvoidAll excludes qs
avoided excludes [] [] h a = λ k d l. absurd (omega (arith, l))
avoided excludes [] (q ∷ qs) h a = absurd h
avoided excludes (r ∷ rs) [] h a = absurd h
avoided {F} {E} excludes (r ∷ rs) (q ∷ qs) h a =
    let P = λ (xs : List E). All (λ x. excludes x → ⊥) xs in
    All-cons (λ (q : Request _ E). All P q.points) q qs
    (subst (All P) (sym h.0) (All-map P (λ (o : OpenedMatrix F E). o.points) r.matrices (λ k d l. a 0 r (omega arith) k d l)))
    (avoided excludes rs qs h.1 (λ k d l. a (suc k) d (omega (arith, l))))

module _ {S F E C D P R : Type 0} (k : ProverBackend S F E C D P R) (b : Batch S F E C) (points : CosetData F → ℕ) (point_at : CosetData F → ℕ → F) (commits : List (CosetData F × Rows F) → C → Type 0) (kept : RoundsProverData D) (x0 : E) (s0 : S)
    (Y : IsReady k b kept (IsCommitment b.setting.field.ring points point_at commits k.made k.holds) x0 s0)
    (pre : HasProverData (IsCommitment b.setting.field.ring points point_at commits k.made k.holds) (preprocessed_all b) b.statement.common.preprocessed kept.preprocessed)
    (sizes : (d : CosetData F) → points d ≡ 2 ^ d.log_size) (places : (d : CosetData F) (i : ℕ) → point_at d i ≡ point b.setting.field.ring b.setting.field.root d i)
    (L : FieldsLaws b.setting.field b.setting.extension b.setting.two_adicity b.prover.inverse) (K : AreCanonical b.setting.field.ring b.setting.order b.prover.canonical)
    (B : IsTracedAll b) (plain : b.setting.zk ≡ false) (columns : (i : ℕ) → i < table_count b → HasColumns (declared (table_at b i)).preprocessed) where
  abbrev own_requests : List (Request D E)
  own_requests = asked_of b kept Y.lookup_witness Y.ood_witness

  abbrev rounds : Option F → F → List (Round F E C)
  rounds w z = honest_rounds b.setting b.prover b.statement b.traces b.degree_bits w z

  -- grinding values are those that the prover has
  same_lookup : (w : Option F) (z : F) → IsGroundOf b w z → Y.lookup_witness ≡ w
  same_lookup w z G = one_lookup b.setting b.prover b.statement b.traces b.degree_bits K Y.lookup_witness w Y.is_ground.0 G.0

  same_ood : (w : Option F) (z : F) → IsGroundOf b w z → Y.ood_witness ≡ z
  same_ood w z G = one_ood b.setting b.prover b.statement b.traces b.degree_bits K Y.lookup_witness w Y.ood_witness z (same_lookup w z G) Y.is_ground.1 G.1

  -- so what holds of them holds of all
  pub of_own : (Q : Option F → F → Type 0) → Q Y.lookup_witness Y.ood_witness → (w : Option F) (z : F) → IsGroundOf b w z → Q w z
  of_own Q h w z G = subst (λ z. Q w z) (same_ood w z G) (subst (λ w. Q w Y.ood_witness) (same_lookup w z G) h)

  own_ask : AskFor (rounds Y.lookup_witness Y.ood_witness) own_requests
  own_ask = ask b L B Y.lookup_witness Y.ood_witness plain columns points point_at sizes places commits k.made k.holds kept Y.main Y.quotient pre Y.permutation

  own_asked : AreAsked k b Y.lookup_witness Y.ood_witness own_requests
  own_asked = record {
    ask = own_ask;
    made = made_all b L B Y.lookup_witness Y.ood_witness plain columns points point_at sizes places commits k.made k.holds kept Y.main Y.quotient pre Y.permutation;
    held = held_all b L B Y.lookup_witness Y.ood_witness plain columns points point_at sizes places commits k.made k.holds kept Y.main Y.quotient pre Y.permutation;
  }

  pub is_asked : (w : Option F) (z : F) → IsGroundOf b w z → AreAsked k b w z (asked_of b kept w z)
  is_asked = of_own (λ w z. AreAsked k b w z (asked_of b kept w z)) own_asked

  pub made_of_asked : All (λ (q : Request D E). k.made q.prover_data) own_requests
  made_of_asked = own_asked.made

  -- the check, where the backend's answer for these requests is known
  opening_holds : (requests : List (Request D E)) → requests ≡ own_requests → NoneOf (k.open_fault requests) → (w : Option F) (z : F) → IsGroundOf b w z → AreAsked k b w z (asked_of b kept w z) × NoneOf (k.open_fault (asked_of b kept w z))
  opening_holds requests e none w z G = (is_asked w z G, of_own (λ w z. NoneOf (k.open_fault (asked_of b kept w z))) (subst (λ q. NoneOf (k.open_fault q)) e none) w z G)

  opening_refused : (requests : List (Request D E)) (e : ProvingError R) → requests ≡ own_requests → FirstFails (record { refusal = IsPcsRefusal Opening (k.open_fault requests); holds = NoneOf (k.open_fault requests) } ∷ []) e → FirstFails (opening_request_checks k b kept) e
  unfolding FirstFails
  opening_refused requests e same h = elim h [
    | inl t ↦ absurd t.1
    | inr t ↦
        let fault = subst (λ q. k.open_fault q t.1.0) same t.1.2 in
        inr (λ all. (all Y.lookup_witness Y.ood_witness Y.is_ground).1 t.1.0 fault, (Y.lookup_witness, Y.ood_witness, Y.is_ground, own_asked, (t.1.0, t.1.1, fault)))
  ]

  pub refusal_of_batch : (requests : List (Request D E)) (e : ProvingError R) → requests ≡ own_requests → IsProverRefusal (record { refusal = IsPcsRefusal Opening (k.open_fault requests); holds = NoneOf (k.open_fault requests) } ∷ []) e → IsProverRefusal (opening_request_checks k b kept) e
  refusal_of_batch requests e same h = refusal_along _ (opening_request_checks k b kept) e (λ d. opening_refused requests d same) h

  pub granted_of_batch : (requests : List (Request D E)) → requests ≡ own_requests → NoneFails (record { refusal = IsPcsRefusal {R = R} Opening (k.open_fault requests); holds = NoneOf (k.open_fault requests) } ∷ []) → NoneFails (opening_request_checks k b kept)
  granted_of_batch requests same h = none_alone _ (opening_holds requests same (holds_alone _ h))

  -- what the backend gives for these requests
  module _ (requests : List (Request D E)) (same : requests ≡ own_requests) (proof : P) where
    pub proves_of_batch : k.proves s0 requests proof → (w : Option F) (z : F) → IsGroundOf b w z
        → AreAsked k b w z (asked_of b kept w z) × k.proves (opening_state b.setting b.prover b.statement b.traces b.degree_bits w z) (asked_of b kept w z) proof
    proves_of_batch h =
        let state = subst (λ s. k.proves s requests proof) Y.state_is h in
        of_own (λ w z. AreAsked k b w z (asked_of b kept w z) × k.proves (opening_state b.setting b.prover b.statement b.traces b.degree_bits w z) (asked_of b kept w z) proof)
        (own_asked, subst (λ q. k.proves (opening_state b.setting b.prover b.statement b.traces b.degree_bits Y.lookup_witness Y.ood_witness) q proof) same state)

    -- and where it leaves the challenger
    pub left_of_batch : (after : S → List (Request D E) → P → S) (left : S) → left ≡ after s0 requests proof
        → (w : Option F) (z : F) → IsGroundOf b w z → left ≡ after (opening_state b.setting b.prover b.statement b.traces b.degree_bits w z) (asked_of b kept w z) proof
    left_of_batch after left h =
        of_own (λ w z. left ≡ after (opening_state b.setting b.prover b.statement b.traces b.degree_bits w z) (asked_of b kept w z) proof)
        (h ∙ (λ i. after (Y.state_is i) (same i) proof))

    module _ (size_of : CosetData F → ℕ) (sizes_are : (d : CosetData F) → size_of d ≡ 2 ^ d.log_size) (values : List (List (List (List E)))) (opens : S → List (CommitmentClaim E C (CosetData F)) → P → Type 0)
        (opening : (held : List (OpenedCommitment C F)) → AreOpenedCommitments k.holds requests held → IsOpening b.setting.extension.ring b.setting.extension.embed size_of k.excludes (λ claims. opens s0 claims proof) requests values held) where
      on_own : (held : List (OpenedCommitment C F)) → AreOpenedCommitments k.holds own_requests held → IsOpening b.setting.extension.ring b.setting.extension.embed size_of k.excludes (λ claims. opens s0 claims proof) own_requests values held
      on_own = subst (λ q. (held : List (OpenedCommitment C F)) → AreOpenedCommitments k.holds q held → IsOpening b.setting.extension.ring b.setting.extension.embed size_of k.excludes (λ claims. opens s0 claims proof) q values held) same opening

      pub values_of_batch : values ≡ values_in_rounds b.setting.extension.ring b.setting.extension.embed (rounds Y.lookup_witness Y.ood_witness)
      values_of_batch =
          opening_values b.setting b.prover b.statement b.traces b.degree_bits L B plain Y.lookup_witness Y.ood_witness proof size_of sizes_are k.holds k.excludes (λ claims. opens s0 claims proof) own_requests values own_ask own_asked.held on_own

      own_taken : AvoidsExcluded k b Y.lookup_witness Y.ood_witness
          → opens (opening_state b.setting b.prover b.statement b.traces b.degree_bits Y.lookup_witness Y.ood_witness) (honest_claims b.setting b.prover b.statement b.traces b.degree_bits Y.lookup_witness Y.ood_witness proof) proof
      own_taken avoid =
          subst (λ s. opens s (honest_claims b.setting b.prover b.statement b.traces b.degree_bits Y.lookup_witness Y.ood_witness proof) proof) Y.state_is
          (opening_taken b.setting b.prover b.statement b.traces b.degree_bits L B plain Y.lookup_witness Y.ood_witness proof size_of sizes_are k.holds k.excludes (λ claims. opens s0 claims proof) own_requests values own_ask own_asked.held on_own
          (avoided k.excludes (rounds Y.lookup_witness Y.ood_witness) own_requests
          (paired_from (λ (r : Round F E C) (q : Request D E). q.points ≡ map (λ (o : OpenedMatrix F E). o.points) r.matrices) (rounds Y.lookup_witness Y.ood_witness) own_requests own_ask) avoid))

      pub taken_of_batch : (w : Option F) (z : F) → IsGroundOf b w z → AvoidsExcluded k b w z
          → opens (opening_state b.setting b.prover b.statement b.traces b.degree_bits w z) (honest_claims b.setting b.prover b.statement b.traces b.degree_bits w z proof) proof
      taken_of_batch = of_own (λ w z. AvoidsExcluded k b w z → opens (opening_state b.setting b.prover b.statement b.traces b.degree_bits w z) (honest_claims b.setting b.prover b.statement b.traces b.degree_bits w z proof) proof) own_taken

      -- the tables that are taken out of the values are those that are opened
      pub opened_of_batch : (has : Bool) → has ≡ is_there kept.preprocessed → (tables : List (OpenedWithLookups E))
          → tables ≡ tabulate (table_count b) (taken_at b.statement.common.preprocessed b.statement.common.lookups (tabulate (table_count b) (λ i. 2 ^ log_parts_at b i)) (round_values has values))
          → (w : Option F) (z : F) → IsGroundOf b w z
          → tables ≡ tabulate (table_count b) (λ i. opened_of b.setting b.prover (table_at b i) (challenges_at b.setting b.prover b.statement b.traces b.degree_bits w i) (alpha b.setting b.prover b.statement b.traces b.degree_bits w) (zeta b.setting b.prover b.statement b.traces b.degree_bits w z))
      opened_of_batch has there tables e =
          of_own (λ w z. tables ≡ tabulate (table_count b) (λ i. opened_of b.setting b.prover (table_at b i) (challenges_at b.setting b.prover b.statement b.traces b.degree_bits w i) (alpha b.setting b.prover b.statement b.traces b.degree_bits w) (zeta b.setting b.prover b.statement b.traces b.degree_bits w z)))
          (e
          ∙ ((λ i. tabulate (table_count b) (taken_at b.statement.common.preprocessed b.statement.common.lookups (tabulate (table_count b) (λ i. 2 ^ log_parts_at b i)) (round_values ((there ∙ kept_there (IsCommitment b.setting.field.ring points point_at commits k.made k.holds) (preprocessed_all b) b.statement.common.preprocessed kept.preprocessed pre) i) (values_of_batch i))))
          ∙ tables_opened b L B columns Y.lookup_witness Y.ood_witness))
