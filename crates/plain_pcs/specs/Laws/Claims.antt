-- Faults of claimed values: values that are right have none, others have a first, and the first fault is one.
use Rattle.std.proofs.Common.{◌≡◌, ℕ, List, [], ◌∷◌, ◌++◌, None, length, map, get_or, refl, sym, ◌∙◌, ap, subst, arith}
use Rattle.std.proofs.lemmas.List.{length-map, get_or_default, ext_get_or}
use Rattle.p3_field.specs.Ring.{Ring}
use Rattle.p3_field.specs.Checks.{Check, check, NoneFails, in_turn, AreSingle}
use Rattle.p3_field.specs.Laws.Checks.{none_first, some_first, same_first, same_failing, refusal_later, none_append, none_before, none_after, none_alone, holds_alone, none_at, none_by, none_single, check_single, single_append, single_in_turn}
use Rattle.commit_core.specs.Failure.{FaultUnless}
use Rattle.plain_pcs.specs.Multilinear.{multilinear_value}
use Rattle.plain_pcs.specs.PlainMultilinear.{HasValues, HaveCoordinates, AreValuesAt, multilinear_values_at, point_check, multilinear_value_check, multilinear_claim_checks, IsClaimFault, IsCommitFault, IsOpenFault}
use Rattle.plain_pcs.specs.declared.plain_multilinear.PlainMultilinearError.{PlainMultilinearError}
use Rattle.plain_pcs.specs.declared.plain_multilinear.PlainMultilinearProverError.{PlainMultilinearProverError}
use Rattle.plain_pcs.specs.declared.plain_multilinear.PlainMultilinearProverError.TheVariants.{Length as ProverLength, PointLength as ProverPointLength}
use Rattle.plain_pcs.specs.declared.plain_multilinear.PlainMultilinearError.TheVariants.{Length, PointLength, Count, Value}

pub points_pass : {E : Type 0} (m : ℕ) (points : List (List E)) → HaveCoordinates m points → NoneFails (in_turn (length points) (point_check m points))
points_pass m points h =
    none_by (point_check m points) (λ j. length (get_or points j []) ≡ m) (length points)
    (λ j b p. none_alone (check (PointLength j) (length (get_or points j []) ≡ m)) p) (λ j b. h j [] b)

module _ {F E : Type 0} (s : Ring E) (embed : F → E) (m : ℕ) (vs : List F) (points : List (List E)) (ys : List E) where
  abbrev zs : List E
  zs = multilinear_values_at s embed vs points

  abbrev value_checks : List (Check PlainMultilinearError)
  value_checks = in_turn (length points) (multilinear_value_check s ys zs)

  abbrev counted : List (Check PlainMultilinearError)
  counted = check Count (length ys ≡ length points) ∷ value_checks

  claims_pass : AreValuesAt s embed m vs points ys → NoneFails (multilinear_claim_checks s embed m vs points ys)
  claims_pass h =
      let pointed = in_turn (length points) (point_check m points) in
      refusal_later (check Length (HasValues m vs)) (pointed ++ counted) None h.has_values
      (none_append pointed counted (points_pass m points h.coordinates)
      (refusal_later (check Count (length ys ≡ length points)) value_checks None (ap length h.values ∙ length-map points (multilinear_value s (map embed vs)))
      (none_by (multilinear_value_check s ys zs) (λ j. get_or ys j s.zero ≡ get_or zs j s.zero) (length points)
      (λ j b p. none_alone (check (Value j) (get_or ys j s.zero ≡ get_or zs j s.zero)) p) (λ j b. ap (λ l. get_or l j s.zero) h.values))))

  -- claims that fail no check are right
  values_of_none : NoneFails (multilinear_claim_checks s embed m vs points ys) → AreValuesAt s embed m vs points ys
  unfolding NoneFails
  values_of_none n =
      let pointed = in_turn (length points) (point_check m points) in
      let lists = none_before pointed counted n.1 in
      let after = none_after pointed counted n.1 in
      let count : length ys ≡ length zs = after.0 ∙ sym (length-map points (multilinear_value s (map embed vs))) in
      record {
        has_values = n.0;
        coordinates = λ j d b.
            subst (λ (x : List E). length x ≡ m) (get_or_default points j [] d b)
            (holds_alone (check (PointLength j) (length (get_or points j []) ≡ m)) (none_at (point_check m points) (length points) j b lists));
        values = ext_get_or s.zero ys zs count (λ j b.
            holds_alone (check (Value j) (get_or ys j s.zero ≡ get_or zs j s.zero)) (none_at (multilinear_value_check s ys zs) (length points) j (omega (arith, after.0, b)) after.1));
      }

  claims_single : AreSingle (multilinear_claim_checks s embed m vs points ys)
  claims_single =
      let pointed = in_turn (length points) (point_check m points) in
      check_single Length (HasValues m vs) (pointed ++ counted)
      (single_append pointed counted
      (single_in_turn (point_check m points) (length points) (λ j. check_single (PointLength j) (length (get_or points j []) ≡ m) [] (none_single PlainMultilinearError)))
      (check_single Count (length ys ≡ length points) value_checks
      (single_in_turn (multilinear_value_check s ys zs) (length points) (λ j. check_single (Value j) (get_or ys j s.zero ≡ get_or zs j s.zero) [] (none_single PlainMultilinearError)))))

  pub claims_faultless : AreValuesAt s embed m vs points ys → (e : PlainMultilinearError) → IsClaimFault s embed m vs points ys e → ⊥
  claims_faultless h e f = none_first (multilinear_claim_checks s embed m vs points ys) e (claims_pass h) f

  pub some_claim_fault : FaultUnless (AreValuesAt s embed m vs points ys) (IsClaimFault s embed m vs points ys)
  some_claim_fault = λ n f. some_first (multilinear_claim_checks s embed m vs points ys) claims_single (λ none. n (values_of_none none)) f

  pub one_claim_fault : (e g : PlainMultilinearError) → IsClaimFault s embed m vs points ys e → IsClaimFault s embed m vs points ys g → e ≡ g
  one_claim_fault e g f h = same_first (multilinear_claim_checks s embed m vs points ys) e g claims_single f h

-- the cause to refuse to commit, and to open, is one
pub one_commit_cause : {F : Type 0} (m : ℕ) (vs : List F) (e g : PlainMultilinearProverError) → IsCommitFault m vs e → IsCommitFault m vs g → e ≡ g
one_commit_cause m vs ProverLength ProverLength f h = refl
one_commit_cause m vs ProverLength (ProverPointLength j) f h = absurd h
one_commit_cause m vs (ProverPointLength i) g f h = absurd f

pub one_open_cause : {F E : Type 0} (m : ℕ) (vs : List F) (points : List (List E)) (e g : PlainMultilinearProverError) → IsOpenFault m vs points e → IsOpenFault m vs points g → e ≡ g
one_open_cause m vs points ProverLength ProverLength f h = refl
one_open_cause m vs points ProverLength (ProverPointLength j) f h = absurd (f h.0)
one_open_cause m vs points (ProverPointLength i) ProverLength f h = absurd (h f.0)
one_open_cause m vs points (ProverPointLength i) (ProverPointLength j) f h =
    ap ProverPointLength (same_failing (length points) (λ k. length (get_or points k []) ≡ m) i j f.1 h.1)
