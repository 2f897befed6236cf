-- The checks of what a proof of one swap table opens: the backend's one check comes to the checks of degrees and values.
use Rattle.std.proofs.Common.{◌≡◌, ℕ, zero, suc, ◌+◌, ◌-◌, ◌^◌, ◌≤◌, List, [], ◌∷◌, ◌++◌, length, refl, sym, ◌∙◌, subst, arith, All}
use Rattle.std.specs.Prelude.{slice_index_or as get_or}
use Rattle.p3_field.specs.BabyBear.{baby_bear_ring, baby_bear_root}
use Rattle.p3_field.specs.Checks.{Check, check, NoneFails, in_turn, of_items}
use Rattle.p3_field.specs.Domain.{CosetData}
use Rattle.p3_field.specs.Quartic.{quartic_ring, of_baby_bear_value}
use Rattle.p3_field.specs.declared.baby_bear.BabyBear.{BabyBear}
use Rattle.p3_field.specs.declared.quartic.QuarticExtension.{QuarticExtension}
use Rattle.p3_matrix.specs.Matrix.{Rows}
use Rattle.p3_challenger.specs.declared.sha256_challenger.Sha256Challenger.{Sha256Challenger}
use Rattle.commit_core.specs.Claims.{PointClaim, CommitmentClaim}
use Rattle.p3_uni_stark.specs.declared.error.VerificationError.TheVariants.{InvalidOpeningArgument}
use Rattle.plain_pcs.specs.Scheme.{PlainCommitmentData}
use Rattle.plain_pcs.specs.Checks.{HasDimensions, HasLowDegree as LowDegree, HasValue as ValueAt, degree_check as plain_degree, value_check as plain_value, point_checks as plain_point, round_checks as plain_round, opening_claim_checks as plain_checks}
use Rattle.plain_pcs.specs.declared.commitment.PlainProof.{PlainProof}
use Rattle.plain_pcs.specs.declared.error.PlainError.{PlainError}
use Rattle.plain_pcs.specs.declared.error.PlainError.TheVariants.{RoundShape, Dimensions, Degree, Value}
use Rattle.batch_constraints.specs.Sizing.{log_ceil}
use Rattle.batch_statement.specs.declared.error.BatchVerificationError.TheVariants.{Verification}
use Rattle.verifier_claims.specs.Claims.{claims, claims_by, on_subgroup}
use Rattle.verifier_batch.specs.OpeningChecks.{claim_checks, claimed, opens_check, opening_checks}
use Rattle.transcript_version.specs.declared.TranscriptVersion.{TranscriptVersion}
use Rattle.tool_statement.specs.Config.{tool_setting, tool_backend, tool_scheme}
use Rattle.law_swap_checks.specs.SwapShape.{SwapProof}
use Rattle.law_swap_checks.specs.SwapChecks.{Refusal, column_degree_check, column_value_check, main_column_checks, quotient_checks, swap_next_point}
use Rattle.law_swap_checks.proofs.Alike.{Alike, Stands, alike_before, alike_grouped, stand_then, stand_both, stand_held, stand_alone, stand_one, stand_turns, stand_alike}
use Rattle.law_swap_checks.proofs.Parts.{ArePlain, alone, proof_of, swap_statement, shape_height}
use Rattle.law_swap_checks.proofs.Shape.{all_one}

-- what a fault of the backend is refused as
abbrev pub invalid : PlainError → Refusal
invalid e = Verification (InvalidOpeningArgument e)

abbrev Claim : Type 0
Claim = CommitmentClaim QuarticExtension (PlainCommitmentData BabyBear) (CosetData BabyBear)

abbrev Points : Type 0
Points = List (PointClaim QuarticExtension)

-- the claims on a commitment to one matrix
abbrev claim_on : ℕ → Rows BabyBear → Points → Claim
claim_on n m points = record { commitment = alone m; matrices = on_subgroup baby_bear_ring n points ∷ [] }

abbrev OneEach : Type 0
OneEach = let one : ℕ = 1 in one ≡ one

all_two : {A : Type 0} (P : A → Type 0) (x y : A) → P x → P y → All P (x ∷ y ∷ [])
all_two P x y p q zero d h = p
all_two P x y p q (suc i) d h = all_one P y q i d (omega arith)

-- one matrix: its columns' degrees stand for themselves
degrees_stand : (round k : ℕ) (m : Rows BabyBear) (columns : ℕ)
    → Stands invalid (in_turn columns (plain_degree tool_scheme quartic_ring of_baby_bear_value round 0 m k)) (in_turn columns (column_degree_check round k m))
degrees_stand round k m columns =
    stand_turns invalid columns (plain_degree tool_scheme quartic_ring of_baby_bear_value round 0 m k) (column_degree_check round k m)
    (λ j. stand_one invalid (Degree round 0 j) (LowDegree tool_scheme quartic_ring of_baby_bear_value m k j))

-- and so do their values at a point
values_stand : (round k at : ℕ) (m : Rows BabyBear) (point : PointClaim QuarticExtension) (columns : ℕ)
    → Stands invalid (in_turn columns (plain_value tool_scheme quartic_ring of_baby_bear_value round 0 m k at point)) (in_turn columns (column_value_check round k at m point.point point.values))
values_stand round k at m point columns =
    stand_turns invalid columns (plain_value tool_scheme quartic_ring of_baby_bear_value round 0 m k at point) (column_value_check round k at m point.point point.values)
    (λ j. stand_one invalid (Value round 0 at j) (ValueAt tool_scheme quartic_ring of_baby_bear_value m k j point.point (get_or point.values j quartic_ring.zero)))

-- a round of one matrix, where its dimensions are right, and its checks after these stand for some
round_stands : (round k : ℕ) (m : Rows BabyBear) (points : Points) (rs : List (Check Refusal))
    → HasDimensions tool_scheme quartic_ring of_baby_bear_value m (on_subgroup baby_bear_ring k points)
    → Stands invalid (in_turn m.width (plain_degree tool_scheme quartic_ring of_baby_bear_value round 0 m k) ++ of_items (plain_point tool_scheme quartic_ring of_baby_bear_value round 0 m k) points) rs
    → Stands invalid (plain_round tool_scheme quartic_ring of_baby_bear_value round (claim_on k m points)) rs
unfolding of_items NoneFails
round_stands round k m points rs fits rest =
    let dims : Check PlainError = check (Dimensions round 0) (HasDimensions tool_scheme quartic_ring of_baby_bear_value m (on_subgroup baby_bear_ring k points)) in
    let both = in_turn m.width (plain_degree tool_scheme quartic_ring of_baby_bear_value round 0 m k) ++ of_items (plain_point tool_scheme quartic_ring of_baby_bear_value round 0 m k) points in
    stand_held invalid (check (RoundShape round) OneEach ∷ []) ((dims ∷ both) ++ []) rs (refl, tt)
    (stand_alone invalid (dims ∷ both) rs
    (stand_held invalid (dims ∷ []) both rs (fits, tt) rest))

module _ (version : TranscriptVersion) (k : ℕ) (small : k ≤ 10) (main quotient : Rows BabyBear) (local next chunk : List QuarticExtension) (plain : ArePlain k main quotient local next chunk) (zeta : QuarticExtension) where
  abbrev local_claim : PointClaim QuarticExtension
  local_claim = record { point = zeta; values = local }

  abbrev next_claim : PointClaim QuarticExtension
  next_claim = record { point = swap_next_point k zeta; values = next }

  abbrev chunk_claim : PointClaim QuarticExtension
  chunk_claim = record { point = zeta; values = chunk }

  main_fits : HasDimensions tool_scheme quartic_ring of_baby_bear_value main (on_subgroup baby_bear_ring k (local_claim ∷ next_claim ∷ []))
  main_fits = record {
    fits = omega arith;
    height_is = shape_height 2 (2 ^ (k + 1)) main (omega arith) plain.main_is;
    widths_are = let w = plain.main_is.width in
        all_two (λ (c : PointClaim QuarticExtension). length c.values ≡ main.width) local_claim next_claim (plain.local_is ∙ sym w) (plain.next_is ∙ sym w);
  }

  quotient_fits : HasDimensions tool_scheme quartic_ring of_baby_bear_value quotient (on_subgroup baby_bear_ring k (chunk_claim ∷ []))
  quotient_fits = record {
    fits = omega arith;
    height_is = shape_height 4 (2 ^ (k + 1)) quotient (omega arith) plain.quotient_is;
    widths_are = let w = plain.quotient_is.width in all_one (λ (c : PointClaim QuarticExtension). length c.values ≡ quotient.width) chunk_claim (plain.chunk_is ∙ sym w);
  }

  main_stands : Stands invalid (plain_round tool_scheme quartic_ring of_baby_bear_value 0 (claim_on k main (local_claim ∷ next_claim ∷ []))) (main_column_checks k main zeta local next)
  unfolding of_items
  main_stands =
      let points = λ (n : ℕ). in_turn n (plain_value tool_scheme quartic_ring of_baby_bear_value 0 0 main k 0 local_claim) ++ (in_turn n (plain_value tool_scheme quartic_ring of_baby_bear_value 0 0 main k 1 next_claim) ++ []) in
      let P : ℕ → Type 0 = λ n. Stands invalid (in_turn n (plain_degree tool_scheme quartic_ring of_baby_bear_value 0 0 main k) ++ points n) (main_column_checks k main zeta local next) in
      let degrees = in_turn 2 (column_degree_check 0 k main) in
      let here = in_turn 2 (column_value_check 0 k 0 main zeta local) in
      let after = in_turn 2 (column_value_check 0 k 1 main (swap_next_point k zeta) next) in
      round_stands 0 k main (local_claim ∷ next_claim ∷ []) (main_column_checks k main zeta local next) main_fits
      (subst P (sym plain.main_is.width)
      (stand_then invalid _ (degrees ++ (here ++ after)) (degrees ++ here ++ after)
      (stand_both invalid _ _ degrees (here ++ after) (degrees_stand 0 k main 2)
      (stand_both invalid _ _ here after (values_stand 0 k 0 main local_claim 2) (stand_alone invalid _ after (values_stand 0 k 1 main next_claim 2))))
      (alike_grouped degrees here after)))

  quotient_stands : Stands invalid (plain_round tool_scheme quartic_ring of_baby_bear_value 1 (claim_on k quotient (chunk_claim ∷ []))) (quotient_checks k quotient zeta chunk)
  unfolding of_items
  quotient_stands =
      let points = λ (n : ℕ). in_turn n (plain_value tool_scheme quartic_ring of_baby_bear_value 1 0 quotient k 0 chunk_claim) ++ [] in
      let P : ℕ → Type 0 = λ n. Stands invalid (in_turn n (plain_degree tool_scheme quartic_ring of_baby_bear_value 1 0 quotient k) ++ points n) (quotient_checks k quotient zeta chunk) in
      round_stands 1 k quotient (chunk_claim ∷ []) (quotient_checks k quotient zeta chunk) quotient_fits
      (subst P (sym plain.quotient_is.width)
      (stand_both invalid _ _ _ _ (degrees_stand 1 k quotient 4) (stand_alone invalid _ _ (values_stand 1 k 0 quotient chunk_claim 4))))

  -- the claims of the proof, in two rounds
  abbrev two_claims : List Claim
  two_claims = claim_on k main (local_claim ∷ next_claim ∷ []) ∷ claim_on k quotient (chunk_claim ∷ []) ∷ []

  claims_stand : Stands invalid (plain_checks tool_scheme quartic_ring of_baby_bear_value two_claims) (main_column_checks k main zeta local next ++ quotient_checks k quotient zeta chunk)
  unfolding plain_checks of_items
  claims_stand =
      stand_both invalid (plain_round tool_scheme quartic_ring of_baby_bear_value 0 (claim_on k main (local_claim ∷ next_claim ∷ [])))
      (plain_round tool_scheme quartic_ring of_baby_bear_value 1 (claim_on k quotient (chunk_claim ∷ [])) ++ []) (main_column_checks k main zeta local next) (quotient_checks k quotient zeta chunk) main_stands
      (stand_alone invalid (plain_round tool_scheme quartic_ring of_baby_bear_value 1 (claim_on k quotient (chunk_claim ∷ []))) (quotient_checks k quotient zeta chunk) quotient_stands)

  module _ (opening : PlainProof) (witness : BabyBear) (a b x : BabyBear) where
    abbrev p : SwapProof
    p = proof_of k main quotient local next chunk opening witness

    -- those that a verifier makes of the proof
    claims_are : claims (tool_setting version) (claimed (tool_setting version) (swap_statement a b x) p) zeta ≡ two_claims
    unfolding claims_by tool_setting log_ceil
    claims_are =
        let m : k - 0 ≡ k = omega arith in
        let n : k + 0 - 0 + 0 ≡ k = omega arith in
        λ i.
        claim_on k main (local_claim ∷ record { point = quartic_ring.mul zeta (of_baby_bear_value (baby_bear_root (m i))); values = next } ∷ [])
        ∷ claim_on (n i) quotient (chunk_claim ∷ []) ∷ []

    claims_hold : NoneFails (claim_checks (tool_setting version) (swap_statement a b x) p {R = PlainError})
    unfolding claim_checks tool_setting in_turn NoneFails log_ceil
    claims_hold = (omega arith, (omega arith, tt))

    pub opening_alike : (state : Sha256Challenger) → Alike (opening_checks (tool_setting version) tool_backend (swap_statement a b x) p zeta state) (main_column_checks k main zeta local next ++ quotient_checks k quotient zeta chunk)
    unfolding opening_checks tool_backend
    opening_alike state =
        let found = claims (tool_setting version) (claimed (tool_setting version) (swap_statement a b x) p) zeta in
        let rs = main_column_checks k main zeta local next ++ quotient_checks k quotient zeta chunk in
        let P : List Claim → Type 0 = λ cs. Stands invalid (plain_checks tool_scheme quartic_ring of_baby_bear_value cs) rs in
        alike_before (claim_checks (tool_setting version) (swap_statement a b x) p) (opens_check tool_backend state found opening) rs claims_hold
        (stand_alike invalid (plain_checks tool_scheme quartic_ring of_baby_bear_value found) rs (subst P (sym claims_are) claims_stand))
