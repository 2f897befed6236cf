-- The checks of a swap table's identity at the drawn point.
use Rattle.std.proofs.Common.{◌≡◌, ◌↔◌, ℕ, ◌+◌, ◌-◌, ◌^◌, ◌≤◌, List, [], ◌∷◌, map, Some, inl, inr, refl, sym, ◌∙◌, ap, subst, arith}
use Rattle.std.specs.Prelude.{◌&&◌, nat_eq, ◌⊎◌}
use Rattle.p3_field.specs.BabyBear.{reduce, baby_bear_ring, baby_bear_inv, baby_bear_root}
use Rattle.p3_field.specs.Checks.{check, NoneFails, FirstFails, in_turn}
use Rattle.p3_field.specs.Domain.{CosetData, vanishing_polynomial, point}
use Rattle.p3_field.specs.Field.{TwoAdic, Extension, combine}
use Rattle.p3_field.specs.Laws.Algebra.{one_mul}
use Rattle.p3_field.specs.Laws.BabyBearField.{baby_bear_field_laws, baby_bear_root_laws}
use Rattle.p3_field.specs.Laws.BabyBearLaws.{baby_bear_laws}
use Rattle.p3_field.specs.Laws.QuarticField.{quartic_field_laws, quartic_eq_same, quartic_same_eq}
use Rattle.p3_field.specs.Laws.QuarticLaws.{quartic_laws, quartic_hom}
use Rattle.p3_field.specs.Laws.Roots.{field_no_zero_divisors}
use Rattle.p3_field.specs.Laws.Selectors.{vanishing_polynomial_vanishes, vanishing_only_there}
use Rattle.p3_field.specs.Laws.TwoAdic.{decide_by}
use Rattle.p3_field.specs.Quartic.{quartic_ring, quartic_inv, of_baby_bear_value, quartic_basis}
use Rattle.p3_field.specs.Ring.{RingLaws}
use Rattle.p3_field.specs.declared.baby_bear.BabyBear.{BabyBear}
use Rattle.p3_field.specs.declared.quartic.QuarticExtension.{QuarticExtension}
use Rattle.p3_matrix.specs.Matrix.{Rows}
use Rattle.air_core.specs.Tree.{eval_tree}
use Rattle.p3_uni_stark.specs.Fold.{fold}
use Rattle.p3_uni_stark.specs.Point.{point_reading}
use Rattle.p3_uni_stark.specs.Recombine.{chunk_weight, recombined}
use Rattle.p3_uni_stark.specs.declared.error.VerificationError.{VerificationError}
use Rattle.p3_uni_stark.specs.declared.error.VerificationError.TheVariants.{OodPointInDomain, OodEvaluationMismatch}
use Rattle.plain_pcs.specs.declared.commitment.PlainProof.{PlainProof}
use Rattle.plain_pcs.specs.declared.error.PlainError.{PlainError}
use Rattle.air_tables.specs.Swap.{swap_trees}
use Rattle.batch_constraints.specs.Sizing.{log_ceil}
use Rattle.batch_statement.specs.declared.error.BatchVerificationError.TheVariants.{Verification}
use Rattle.verifier_identity.specs.Identity.{folded_at, identity_checks}
use Rattle.verifier_identity.specs.TableIdentity.{verified, periods_check}
use Rattle.verifier_batch.specs.BatchChecks.{identities_at, all_lookup_challenges, domains_of}
use Rattle.transcript_version.specs.declared.TranscriptVersion.{TranscriptVersion}
use Rattle.tool_statement.specs.Config.{tool_setting}
use Rattle.law_swap_checks.specs.SwapShape.{SwapProof}
use Rattle.law_swap_checks.specs.SwapChecks.{value_at_point, swap_trace_domain, IsInTraceDomain, swap_values, SwapIdentity, zeta_checks}
use Rattle.law_swap_checks.proofs.Alike.{Alike, alike_before, alike_append}
use Rattle.law_swap_checks.proofs.Parts.{proof_of, swap_statement}

-- a check that is refused as one of the tables
verified_alike : {R : Type 0} (r : VerificationError R) (P Q : Type 0) → P ↔ Q → Alike (verified (check r P) ∷ []) (check (Verification r) Q ∷ [])
unfolding NoneFails FirstFails
verified_alike r P Q e = record {
  none = (λ n. (e.0 n.0, tt), λ n. (e.1 n.0, tt));
  first = λ s. (
    λ f. elim f [ inl t ↦ absurd t.1 | inr t ↦ let (v, same, is) = t.1 in inr (λ q. t.0 (e.1 q), is ∙ ap Verification same) ],
    λ f. elim f [ inl t ↦ absurd t.1 | inr t ↦ inr (λ p. t.0 (e.0 p), (r, refl, t.1)) ],
  );
}

-- the quotient that is recombined of one chunk is the chunk
one_chunk : {F E : Type 0} (f : TwoAdic F) (e : Extension F E) (M : RingLaws e.ring) (d : CosetData F) (c : List E) (x : E)
    → recombined f e (d ∷ []) (c ∷ []) x ≡ combine e.ring e.basis 0 c
unfolding recombined chunk_weight
one_chunk f e M d c x =
    let r = e.ring in
    let v = combine r e.basis 0 c in
    let one : r.mul r.one r.one ≡ r.one = M.mul_one r.one in
    M.add_zero (r.mul (r.mul r.one r.one) v) ∙ (ap (λ w. r.mul w v) one ∙ one_mul r M v)

-- no periodic column is declared
periods_hold : (height : ℕ) → NoneFails (periods_check {R = PlainError} height [])
unfolding NoneFails
periods_hold height = ((λ i d h. absurd (omega (arith, h))), tt)

quartic_decided : (x y : QuarticExtension) → (x ≡ y) ⊎ (x ≡ y → ⊥)
quartic_decided = decide_by
    (λ x y. nat_eq x.c0.value y.c0.value && (nat_eq x.c1.value y.c1.value && (nat_eq x.c2.value y.c2.value && nat_eq x.c3.value y.c3.value)))
    quartic_eq_same quartic_same_eq

-- the vanishing polynomial is zero on the rows' domain alone
vanishing_tells : (k : ℕ) → k ≤ 27 → (z : QuarticExtension) → (value_at_point (vanishing_polynomial baby_bear_ring baby_bear_inv (swap_trace_domain k)) z ≡ quartic_ring.zero) ↔ IsInTraceDomain k z
vanishing_tells k fits z = (
  (λ e. vanishing_only_there baby_bear_ring baby_bear_laws quartic_ring quartic_laws of_baby_bear_value quartic_hom baby_bear_inv baby_bear_field_laws 27 baby_bear_root baby_bear_root_laws quartic_decided
      quartic_field_laws.one_differs (field_no_zero_divisors quartic_ring quartic_laws quartic_inv quartic_field_laws) (swap_trace_domain k) z baby_bear_field_laws.one_differs fits e),
  (λ p. ap (value_at_point (vanishing_polynomial baby_bear_ring baby_bear_inv (swap_trace_domain k))) p.2
      ∙ vanishing_polynomial_vanishes baby_bear_ring baby_bear_laws quartic_ring quartic_laws of_baby_bear_value quartic_hom baby_bear_inv baby_bear_field_laws 27 baby_bear_root baby_bear_root_laws (swap_trace_domain k) p.0 baby_bear_field_laws.one_differs fits),
)

module _ (version : TranscriptVersion) (k : ℕ) (small : k ≤ 10) (main quotient : Rows BabyBear) (local next chunk : List QuarticExtension) (opening : PlainProof) (witness : BabyBear) (a b x : BabyBear) (alpha zeta : QuarticExtension) where
  abbrev p : SwapProof
  p = proof_of k main quotient local next chunk opening witness

  abbrev publics : List BabyBear
  publics = a ∷ b ∷ x ∷ []

  -- the identity over the domain of 2^n rows, with this value of the quotient
  abbrev Over : ℕ → QuarticExtension → Type 0
  Over n q =
      fold quartic_ring alpha (map (eval_tree (point_reading quartic_ring of_baby_bear_value (swap_values n publics zeta local next))) swap_trees)
      ≡ quartic_ring.mul (value_at_point (vanishing_polynomial baby_bear_ring baby_bear_inv (swap_trace_domain n)) zeta) q

  abbrev quotient_value : QuarticExtension
  quotient_value = combine quartic_ring quartic_basis 0 chunk

  same_identity : (n : ℕ) (q : QuarticExtension) → n ≡ k → q ≡ quotient_value → Over n q ↔ SwapIdentity k publics alpha zeta local next chunk
  same_identity n q m r =
      let I : Type 0 = SwapIdentity k publics alpha zeta local next chunk in
      let P : ℕ → Type 0 = λ n. Over n q ↔ I in
      let Q : QuarticExtension → Type 0 = λ q. Over k q ↔ I in
      subst P (sym m) (subst Q (sym r) ((λ h. h), (λ h. h)))

  outside : (n : ℕ) → n ≡ k → (value_at_point (vanishing_polynomial baby_bear_ring baby_bear_inv (swap_trace_domain n)) zeta ≡ quartic_ring.zero → ⊥) ↔ (IsInTraceDomain k zeta → ⊥)
  outside n e =
      let P : ℕ → Type 0 = λ n. (value_at_point (vanishing_polynomial baby_bear_ring baby_bear_inv (swap_trace_domain n)) zeta ≡ quartic_ring.zero → ⊥) ↔ (IsInTraceDomain k zeta → ⊥) in
      let t = vanishing_tells k (omega arith) zeta in
      subst P (sym e) ((λ h i. h (t.1 i)), (λ h z. h (t.0 z)))

  pub identity_alike : Alike (in_turn 1 (identities_at (tool_setting version) (swap_statement a b x) p {R = PlainError} (all_lookup_challenges (tool_setting version) (swap_statement a b x) p) (domains_of (tool_setting version) (swap_statement a b x) p) alpha zeta))
      (zeta_checks k publics alpha zeta local next chunk)
  unfolding identity_checks folded_at tool_setting in_turn log_ceil
  identity_alike =
      let n = k - 0 in
      let m : n ≡ k = omega arith in
      let d : CosetData BabyBear = record { shift = point baby_bear_ring baby_bear_root (record { shift = baby_bear_ring.mul baby_bear_ring.one (reduce 31); log_size = k + 0 }) 0; log_size = k + 0 - 0 } in
      let q = recombined (tool_setting version).field (tool_setting version).extension (d ∷ []) (chunk ∷ []) zeta in
      let P : Type 0 = value_at_point (vanishing_polynomial baby_bear_ring baby_bear_inv (swap_trace_domain n)) zeta ≡ quartic_ring.zero → ⊥ in
      let I : Type 0 = SwapIdentity k publics alpha zeta local next chunk in
      let first : VerificationError PlainError = OodPointInDomain in
      let second : VerificationError PlainError = OodEvaluationMismatch (Some 0) in
      alike_before (periods_check (2 ^ n) []) (verified (check first P) ∷ verified (check second (Over n q)) ∷ []) (zeta_checks k publics alpha zeta local next chunk) (periods_hold (2 ^ n))
      (alike_append (verified (check first P) ∷ []) (check (Verification first) (IsInTraceDomain k zeta → ⊥) ∷ []) (verified (check second (Over n q)) ∷ []) (check (Verification second) I ∷ [])
      (verified_alike first P (IsInTraceDomain k zeta → ⊥) (outside n m))
      (verified_alike second (Over n q) I (same_identity n q m (one_chunk (tool_setting version).field (tool_setting version).extension quartic_laws d chunk zeta))))
