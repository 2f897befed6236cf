-- The claims of a batch's matrices by their places in the rounds, and what they say where the plain scheme opens them.
use Rattle.std.proofs.Common.{◌≡◌, ℕ, zero, suc, ◌+◌, ◌*◌, ◌<◌, true, List, [], ◌∷◌, Option, None, Some, length, get_or, map, refl, sym, ◌∙◌, ap, subst, arith}
use Rattle.std.specs.Prelude.{slice_get}
use Rattle.std.specs.List.{flat_map}
use Rattle.std.proofs.lemmas.List.{ext_get_or, length-map, get_or-map}
use Rattle.std.proofs.lemmas.Option.{slice_get_within, get_or_from_slice_get}
use Rattle.p3_field.specs.Domain.{CosetData, subgroup}
use Rattle.p3_field.specs.Field.{Extension}
use Rattle.p3_field.specs.Laws.Tabulate.{get_or-tabulate, length-tabulate}
use Rattle.p3_field.specs.Poly.{tabulate, eval_poly_in}
use Rattle.p3_field.specs.Ring.{Ring}
use Rattle.air_core.specs.Shape.{Declaration}
use Rattle.commit_core.specs.Claims.{PointClaim, MatrixClaim, CommitmentClaim}
use Rattle.plain_pcs.specs.Binding.{IsBound}
use Rattle.plain_pcs.specs.Checks.{Opens}
use Rattle.plain_pcs.specs.Scheme.{Scheme, PlainCommitmentData}
use Rattle.batch_config.specs.Domains.{next_by}
use Rattle.batch_config.specs.Setting.{Setting, masks}
use Rattle.batch_statement.specs.Proof.{OpenedWithLookups}
use Rattle.batch_statement.specs.declared.commitments.BatchCommitments.{BatchCommitments}
use Rattle.verifier_shape.specs.ShapeChecks.{permutation_width}
use Rattle.batch_statement.specs.Words.{has_some, bits_at, declared_at, instance_at}
use Rattle.verifier_claims.specs.Claims.{Claimed, all_chunk_domains, at_point, chunk_claim, chunk_claims, claims, claims_by, commitment_in, preprocessed_local_row, main_claim, preprocessed_matrix_claim, matrix_tables, preprocessed_next_row, on_subgroup, permutation_claims, preprocessed_claim, random_claim, claims_of_round, values_where_there, where_declared, where_opened}
use Rattle.law_soundness.specs.Commitment.{matrix_at, polynomials_at}
use Rattle.law_soundness.specs.CommittedBatch.{matrices_before, permutation_count}
use Rattle.law_soundness.specs.PlainSetting.{plain_scheme}
use Rattle.law_soundness.specs.Laws.Bound.{Binds, bound_at, bound_values}
use Rattle.law_soundness.specs.Laws.Places.{Has, found_in_lists, found_in_table, has_fifth, has_fourth, has_second, has_third}

-- the round of a commitment that is there
round_found : {E C D : Type 0} (o : Option C) (commitment : C) (ms : List (MatrixClaim E D)) → o ≡ Some commitment → Has (claims_of_round o ms) (record { commitment = commitment; matrices = ms })
round_found None commitment ms h = absurd cc
round_found (Some y) commitment ms h =
    let same : y ≡ commitment = cc in
    subst (λ z. Has (claims_of_round (Some y) ms) (record { commitment = z; matrices = ms })) same (0, refl)

-- the claim of a next row where next columns are declared
declared_found : {E : Type 0} (first : PointClaim E) (ns : List ℕ) (claim : PointClaim E) → has_some ns ≡ true → slice_get (first ∷ where_declared ns claim) 1 ≡ Some claim
declared_found first [] claim h = absurd cc
declared_found first (n ∷ ns) claim h = refl

-- the claim of permutation columns where there are values, and how many such claims there are
opened_found : {F E : Type 0} (r : Ring F) (zeta after : E) (bits : ℕ) (local next : List E) → 0 < length local
    → slice_get (where_opened r zeta after bits local next) 0 ≡ Some (on_subgroup r bits (at_point zeta local ∷ at_point after next ∷ []))
opened_found r zeta after bits [] next h = absurd (omega (arith, h))
opened_found r zeta after bits (x ∷ xs) next h = refl

pub opened_count : {F E : Type 0} (r : Ring F) (zeta after : E) (bits lookups dimension : ℕ) (local next : List E) → 0 < dimension → length local ≡ permutation_width lookups dimension
    → length (where_opened r zeta after bits local next) ≡ permutation_count lookups
opened_count r zeta after bits zero dimension [] next pos h = refl
opened_count r zeta after bits zero dimension (x ∷ xs) next pos h = absurd (omega (arith, h))
opened_count r zeta after bits (suc n) dimension [] next pos h = absurd (some n dimension pos h)
  where
    some : (n dimension : ℕ) → 0 < dimension → 0 ≡ (suc n + 1) * dimension → ⊥
    some n dimension pos h = let e : (suc n + 1) * dimension ≡ suc n * dimension + dimension = omega arith in omega (arith, pos, h, e)
opened_count r zeta after bits (suc n) dimension (x ∷ xs) next pos h = refl

module _ {S F E : Type 0} (c : Setting S F E (PlainCommitmentData F)) (log_blowup : ℕ) (q : Claimed F E (PlainCommitmentData F)) (zeta : E)
    (binds : Binds (plain_scheme c log_blowup) c.extension.ring c.extension.embed) (opens : Opens (plain_scheme c log_blowup) c.extension.ring c.extension.embed (claims c q zeta)) where
  abbrev s : Scheme F
  s = plain_scheme c log_blowup

  abbrev e : Extension F E
  e = c.extension

  -- what the claims are made of
  abbrev pub after : ℕ → E
  after = next_by e.ring e.embed c.field.root (masks c) zeta

  abbrev domains : List (List (CosetData F))
  domains = all_chunk_domains c q

  abbrev declarations : List (Declaration F)
  declarations = q.declarations

  abbrev commitments : BatchCommitments (PlainCommitmentData F)
  commitments = q.commitments

  abbrev preprocessed : Option (PlainCommitmentData F)
  preprocessed = commitment_in q.preprocessed

  abbrev matrices : List ℕ
  matrices = matrix_tables q.preprocessed

  abbrev bits : List ℕ
  bits = q.degree_bits

  abbrev instances : List (OpenedWithLookups E)
  instances = q.instances

  abbrev r : Ring F
  r = c.field.ring

  abbrev made : List (CommitmentClaim E (PlainCommitmentData F) (CosetData F))
  made = claims c q zeta

  abbrev n : ℕ
  n = length declarations

  -- the rounds
  abbrev random_round : List (CommitmentClaim E (PlainCommitmentData F) (CosetData F))
  random_round = claims_of_round commitments.random (tabulate n (random_claim r zeta bits instances))

  abbrev main_claims : List (MatrixClaim E (CosetData F))
  main_claims = tabulate n (main_claim r zeta after declarations bits instances)

  abbrev quotient_claims : List (MatrixClaim E (CosetData F))
  quotient_claims = flat_map (chunk_claims r zeta (masks c) domains instances) (tabulate n (λ i. i))

  abbrev fixed_claims : List (MatrixClaim E (CosetData F))
  fixed_claims = tabulate (length matrices) (preprocessed_matrix_claim r zeta after declarations bits instances matrices)

  abbrev sum_claims : List (MatrixClaim E (CosetData F))
  sum_claims = flat_map (permutation_claims r zeta after bits instances) (tabulate n (λ i. i))

  main_there : Has made (record { commitment = commitments.main; matrices = main_claims })
  unfolding claims_by
  main_there =
      has_second random_round (claims_of_round (Some commitments.main) main_claims) (claims_of_round (Some commitments.quotient_chunks) quotient_claims) (claims_of_round preprocessed fixed_claims)
      (claims_of_round commitments.permutation sum_claims) _ (0, refl)

  quotient_there : Has made (record { commitment = commitments.quotient_chunks; matrices = quotient_claims })
  unfolding claims_by
  quotient_there =
      has_third random_round (claims_of_round (Some commitments.main) main_claims) (claims_of_round (Some commitments.quotient_chunks) quotient_claims) (claims_of_round preprocessed fixed_claims)
      (claims_of_round commitments.permutation sum_claims) _ (0, refl)

  fixed_there : (commitment : PlainCommitmentData F) → preprocessed ≡ Some commitment → Has made (record { commitment = commitment; matrices = fixed_claims })
  unfolding claims_by
  fixed_there commitment h =
      has_fourth random_round (claims_of_round (Some commitments.main) main_claims) (claims_of_round (Some commitments.quotient_chunks) quotient_claims) (claims_of_round preprocessed fixed_claims)
      (claims_of_round commitments.permutation sum_claims) _ (round_found preprocessed commitment fixed_claims h)

  sums_there : (commitment : PlainCommitmentData F) → commitments.permutation ≡ Some commitment → Has made (record { commitment = commitment; matrices = sum_claims })
  unfolding claims_by
  sums_there commitment h =
      has_fifth random_round (claims_of_round (Some commitments.main) main_claims) (claims_of_round (Some commitments.quotient_chunks) quotient_claims) (claims_of_round preprocessed fixed_claims)
      (claims_of_round commitments.permutation sum_claims) _ (round_found commitments.permutation commitment sum_claims h)

  -- what is claimed of a matrix in one of them
  bound_there : (commitment : PlainCommitmentData F) (claims : List (MatrixClaim E (CosetData F))) (place : ℕ) (d : MatrixClaim E (CosetData F))
      → Has made (record { commitment = commitment; matrices = claims }) → slice_get claims place ≡ Some d → IsBound s e.ring e.embed (matrix_at commitment place) d
  bound_there commitment claims place d there h =
      bound_at s e.ring e.embed binds made opens there.0 place (record { commitment = commitment; matrices = claims }) d there.1 h

  -- the values at x of a matrix's polynomials
  abbrev pub values_of_matrix : (log_height : ℕ) → PlainCommitmentData F → (place : ℕ) → E → List E
  values_of_matrix log_height commitment place x = map (λ g. eval_poly_in e g x) (polynomials_at s log_height commitment place)

  module _ (i : ℕ) (below : i < n) where
    abbrev o : OpenedWithLookups E
    o = instance_at instances i

    abbrev d : Declaration F
    d = declared_at declarations i

    abbrev k : ℕ
    k = bits_at bits i

    -- the main columns of table i
    pub main_bound : IsBound s e.ring e.embed (matrix_at commitments.main i) (main_claim r zeta after declarations bits instances i)
    main_bound = bound_there commitments.main main_claims i (main_claim r zeta after declarations bits instances i) main_there (found_in_table n (main_claim r zeta after declarations bits instances) i below)

    pub main_local_opened : o.base.trace_local ≡ values_of_matrix k commitments.main i zeta
    main_local_opened = bound_values s e.ring e.embed (matrix_at commitments.main i) (main_claim r zeta after declarations bits instances i) main_bound 0 (at_point zeta o.base.trace_local) refl

    pub main_next_opened : has_some d.main_next ≡ true → values_where_there o.base.trace_next ≡ values_of_matrix k commitments.main i (after k)
    main_next_opened declared =
        let claim = at_point (after k) (values_where_there o.base.trace_next) in
        bound_values s e.ring e.embed (matrix_at commitments.main i) (main_claim r zeta after declarations bits instances i) main_bound 1 claim
        (declared_found (at_point zeta o.base.trace_local) d.main_next claim declared)

    -- its preprocessed columns, which are a matrix's
    module _ (commitment : PlainCommitmentData F) (there : preprocessed ≡ Some commitment) (m : ℕ) (names : slice_get matrices m ≡ Some i) where
      pub fixed_bound : IsBound s e.ring e.embed (matrix_at commitment m) (preprocessed_claim r zeta after declarations bits instances i)
      fixed_bound =
          let named : get_or matrices m 0 ≡ i = get_or_from_slice_get matrices m i 0 names in
          subst (λ t. IsBound s e.ring e.embed (matrix_at commitment m) (preprocessed_claim r zeta after declarations bits instances t)) named
          (bound_there commitment fixed_claims m (preprocessed_matrix_claim r zeta after declarations bits instances matrices m) (fixed_there commitment there)
          (found_in_table (length matrices) (preprocessed_matrix_claim r zeta after declarations bits instances matrices) m (slice_get_within matrices m i names)))

      pub fixed_local_opened : preprocessed_local_row o.base.preprocessed ≡ values_of_matrix k commitment m zeta
      fixed_local_opened =
          bound_values s e.ring e.embed (matrix_at commitment m) (preprocessed_claim r zeta after declarations bits instances i) fixed_bound 0 (at_point zeta (preprocessed_local_row o.base.preprocessed)) refl

      pub fixed_next_opened : has_some d.preprocessed_next ≡ true → preprocessed_next_row o.base.preprocessed ≡ values_of_matrix k commitment m (after k)
      fixed_next_opened declared =
          let claim = at_point (after k) (preprocessed_next_row o.base.preprocessed) in
          bound_values s e.ring e.embed (matrix_at commitment m) (preprocessed_claim r zeta after declarations bits instances i) fixed_bound 1 claim
          (declared_found (at_point zeta (preprocessed_local_row o.base.preprocessed)) d.preprocessed_next claim declared)

    -- its permutation columns, where each table has so many permutation matrices
    module _ (commitment : PlainCommitmentData F) (there : commitments.permutation ≡ Some commitment) (count : ℕ → ℕ)
        (counted : (l : ℕ) → l < n → length (permutation_claims r zeta after bits instances l) ≡ count l) (some : 0 < length o.permutation_local) where
      abbrev sums : MatrixClaim E (CosetData F)
      sums = on_subgroup r k (at_point zeta o.permutation_local ∷ at_point (after k) o.permutation_next ∷ [])

      pub sums_bound : IsBound s e.ring e.embed (matrix_at commitment (matrices_before count i)) sums
      sums_bound =
          let at : matrices_before count i + 0 ≡ matrices_before count i = omega arith in
          subst (λ place. IsBound s e.ring e.embed (matrix_at commitment place) sums) at
          (bound_there commitment sum_claims (matrices_before count i + 0) sums (sums_there commitment there)
          (found_in_lists n (λ l. l) (permutation_claims r zeta after bits instances) count i 0 sums counted below
          (opened_found r zeta (after k) k o.permutation_local o.permutation_next some)))

      pub sums_local_opened : o.permutation_local ≡ values_of_matrix k commitment (matrices_before count i) zeta
      sums_local_opened = bound_values s e.ring e.embed (matrix_at commitment (matrices_before count i)) sums sums_bound 0 (at_point zeta o.permutation_local) refl

      pub sums_next_opened : o.permutation_next ≡ values_of_matrix k commitment (matrices_before count i) (after k)
      sums_next_opened = bound_values s e.ring e.embed (matrix_at commitment (matrices_before count i)) sums sums_bound 1 (at_point (after k) o.permutation_next) refl

    -- the chunks of its quotient, where each table has so many domains, and those of table i have its size
    module _ (count : ℕ → ℕ) (counted : (l : ℕ) → l < n → length (get_or domains l []) ≡ count l)
        (sizes : (j : ℕ) → j < count i → (get_or (get_or domains i []) j (subgroup r 0)).log_size + masks c ≡ k) where
      abbrev chunk : ℕ → MatrixClaim E (CosetData F)
      chunk j = chunk_claim r zeta (masks c) (get_or domains i []) o.base.quotient_chunks j

      abbrev place_of : ℕ → ℕ
      place_of j = matrices_before count i + j

      pub chunk_bound : (j : ℕ) → j < count i → IsBound s e.ring e.embed (matrix_at commitments.quotient_chunks (place_of j)) (chunk j)
      chunk_bound j within =
          let lengths : (l : ℕ) → l < n → length (chunk_claims r zeta (masks c) domains instances l) ≡ count l =
          λ l b. length-tabulate (length (get_or domains l [])) (chunk_claim r zeta (masks c) (get_or domains l []) (instance_at instances l).base.quotient_chunks) ∙ counted l b in
          bound_there commitments.quotient_chunks quotient_claims (place_of j) (chunk j) quotient_there
          (found_in_lists n (λ l. l) (chunk_claims r zeta (masks c) domains instances) count i j (chunk j) lengths below
          (found_in_table (length (get_or domains i [])) chunk j (omega (arith, within, counted i below))))

      chunk_opened : (j : ℕ) → j < count i → get_or o.base.quotient_chunks j [] ≡ values_of_matrix k commitments.quotient_chunks (place_of j) zeta
      chunk_opened j within =
          subst (λ size. get_or o.base.quotient_chunks j [] ≡ values_of_matrix size commitments.quotient_chunks (place_of j) zeta) (sizes j within)
          (bound_values s e.ring e.embed (matrix_at commitments.quotient_chunks (place_of j)) (chunk j) (chunk_bound j within) 0 (at_point zeta (get_or o.base.quotient_chunks j [])) refl)

      pub chunks_opened : length o.base.quotient_chunks ≡ count i
          → o.base.quotient_chunks ≡ map (λ gs. map (λ g. eval_poly_in e g zeta) gs) (tabulate (count i) (λ j. polynomials_at s k commitments.quotient_chunks (place_of j)))
      chunks_opened long =
          let P : ℕ → List (List F) = λ j. polynomials_at s k commitments.quotient_chunks (place_of j) in
          let at = λ (gs : List (List F)). map (λ (g : List F). eval_poly_in e g zeta) gs in
          let whole = length-tabulate (count i) P in
          ext_get_or [] o.base.quotient_chunks (map at (tabulate (count i) P)) (long ∙ sym (length-map (tabulate (count i) P) at ∙ whole)) (λ j h.
          let within : j < count i = omega (arith, h, long) in
          chunk_opened j within ∙ (ap at (sym (get_or-tabulate (count i) P j [] within)) ∙ sym (get_or-map at (tabulate (count i) P) j [] [] (omega (arith, within, whole)))))
