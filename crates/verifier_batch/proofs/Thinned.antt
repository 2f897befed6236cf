-- Of the checks of the call that makes claims, only those of the quotients' domains and of the preprocessed matrices' heights can fail where the proof's
-- shape was checked.
use Rattle.std.proofs.Common.{◌≡◌, ℕ, ◌+◌, ◌^◌, ◌<◌, true, List, [], ◌∷◌, ◌++◌, All, Some, length, map, get_or, sym, ◌∙◌, ap, subst}
use Rattle.std.proofs.lemmas.List.{length-map, get_or-map}
use Rattle.air_core.specs.Degree.{capped_sum}
use Rattle.air_core.specs.Shape.{Declaration, width_of}
use Rattle.p3_field.specs.Checks.{NoneFails, in_turn}
use Rattle.p3_field.specs.Laws.Checks.{none_append, none_of_each}
use Rattle.p3_field.specs.Laws.Tabulate.{get_or-tabulate, length-tabulate}
use Rattle.p3_field.specs.Poly.{tabulate}
use Rattle.p3_uni_stark.specs.declared.error.InvalidProofShapeError.TheVariants.{QuotientDomainTooLarge, PreprocessedMetadataMismatch, MissingPreprocessedValues}
use Rattle.batch_config.specs.Setting.{Setting, masks}
use Rattle.batch_statement.specs.Proof.{ProofData}
use Rattle.batch_statement.specs.Statement.{Statement, AirTable, WellFormed, entry_of}
use Rattle.verifier_shape.specs.ShapeChecks.{HasEntries, preprocessed_next_of, shape_check, shape_checks}
use Rattle.batch_statement.specs.Words.{has_some, is_there, no_table, bits_at, declared_at, instance_at}
use Rattle.verifier_claims.specs.ClaimChecks.{bits_between, bits_listed, degree_bits_of, chunks_counted, counts_of, domain_by, entries_in, first_made, listed_of, made_by, made_checks, matrices_of, matrix_fits, next_opened_check, nexts_of, random_of, permutation_rows_of, rows_paired, sizes_fit, sizes_of}
use Rattle.verifier_claims.specs.Claims.{matrix_tables}
use Rattle.verifier_claims.specs.Laws.Listed.{entry_same, matrix_below, matrix_wide}
use Rattle.verifier_batch.specs.OpeningChecks.{shape_bounds_of, claim_checks, claimed, domain_checks, log_chunks_of_table, metadata_check, preprocessed_widths}
use Rattle.verifier_batch.proofs.Shaped.{chunks_are, columns_are_there, counts_agree, declared_next_is_there, is_randomized, next_columns_are_there, rows_agree, size_fits, table_opened}
use Rattle.verifier_batch.proofs.Thin.{Thins, thins_append, thins_before, thins_after, thins_held, thins_more, thins_self, thins_turns}

-- what the tables declare
abbrev pub declared : {F : Type 0} → List (AirTable F) → List (Declaration F)
declared tables = map (λ t. t.declaration) tables

as_many : {F : Type 0} (tables : List (AirTable F)) → length (declared tables) ≡ length tables
as_many tables = length-map tables (λ t. t.declaration)

declared_is : {F : Type 0} (tables : List (AirTable F)) (i : ℕ) → i < length tables → declared_at (declared tables) i ≡ (get_or tables i no_table).declaration
declared_is {F = F} tables i l = get_or-map (λ t. t.declaration) tables i no_table (no_table {F = F}).declaration l

width_is : {F : Type 0} (ds : List (Declaration F)) (i : ℕ) → i < length ds → get_or (preprocessed_widths ds) i 0 ≡ width_of (declared_at ds i).preprocessed
width_is {F = F} ds i l = get_or-map (λ d. width_of d.preprocessed) ds i (no_table {F = F}).declaration 0 l

module _ {S F E C P : Type 0} (R : Type 0) (c : Setting S F E C) (s : Statement F C) (p : ProofData F E C P) (h : NoneFails (shape_checks {R = R} c.field.ring (shape_bounds_of c) s p)) where
  -- table i, among the declarations
  within : (i : ℕ) → i < length (declared s.tables) → i < length s.tables
  within i l = subst (λ m. i < m) (as_many s.tables) l

  lists_hold : NoneFails (listed_of (claimed c s p) {R = R} (preprocessed_widths (declared s.tables)))
  unfolding NoneFails
  lists_hold =
      let a = counts_agree R c.field.ring (shape_bounds_of c) s p h in
      let n = as_many s.tables in (
        record {
          instances_fit = a.instances ∙ sym n;
          degree_bits_fit = a.degree_bits ∙ sym n;
          widths_fit = length-map (declared s.tables) (λ d. width_of d.preprocessed);
          chunks_fit = length-tabulate (length s.tables) (log_chunks_of_table c s p) ∙ sym n;
          entries_fit = subst (λ m. HasEntries m s.common.preprocessed) (sym n) a.entries;
        },
        tt,
      )

  bits_hold : NoneFails (degree_bits_of (claimed c s p) {R = R} (c.log_min + masks c) c.log_max)
  unfolding NoneFails
  bits_hold = none_of_each (bits_between {R = R} (c.log_min + masks c) c.log_max p.degree_bits) (length (declared s.tables))
      (λ i l. let k = size_fits R c.field.ring (shape_bounds_of c) s p h i (within i l) in (k.0, (k.1, tt)))

  random_holds : NoneFails (random_of (claimed c s p) {R = R})
  unfolding NoneFails
  random_holds =
      let r = is_randomized R c.field.ring (shape_bounds_of c) s p h in
      (λ t. subst (λ z. All (λ o. is_there o.base.random ≡ z) p.instances) (sym r.committed ∙ t) r.opened, tt)

  nexts_hold : NoneFails (nexts_of (claimed c s p) {R = R})
  unfolding NoneFails
  nexts_hold = none_of_each (next_opened_check {R = R} (declared s.tables) p.instances) (length (declared s.tables))
      (λ i l. let k = within i l in
      (λ t. declared_next_is_there R i _ _ _ _ _ _ _ (table_opened R c.field.ring (shape_bounds_of c) s p h i k) (ap (λ d. has_some d.main_next) (sym (declared_is s.tables i k)) ∙ t), tt))

  first_holds : NoneFails (first_made {R = R} (c.log_min + masks c) c.log_max (claimed c s p) (preprocessed_widths (declared s.tables)))
  unfolding first_made
  first_holds =
      let x = listed_of (claimed c s p) {R = R} (preprocessed_widths (declared s.tables)) in
      let y = degree_bits_of (claimed c s p) {R = R} (c.log_min + masks c) c.log_max in
      let z = random_of (claimed c s p) {R = R} in
      none_append (x ++ y ++ z) (nexts_of (claimed c s p) {R = R}) (none_append (x ++ y) z (none_append x y lists_hold bits_hold) random_holds) nexts_hold

  -- the list of the numbers of chunks
  chunks_listed : (i : ℕ) → i < length s.tables → log_chunks_of_table c s p i ≡ get_or (tabulate (length s.tables) (log_chunks_of_table c s p)) i 0
  chunks_listed i l = sym (get_or-tabulate (length s.tables) (log_chunks_of_table c s p) i 0 l)

  size_thin : (i : ℕ) → i < length s.tables
      → Thins (sizes_fit {R = R} (masks c) c.log_max c.two_adicity p.degree_bits (tabulate (length s.tables) (log_chunks_of_table c s p)) i) (domain_checks c s p {R = R} i)
  size_thin i l =
      let g = domain_checks c s p {R = R} i in
      let fits = (size_fits R c.field.ring (shape_bounds_of c) s p h i l).2 in
      subst (λ k. Thins (shape_check {R = R} (QuotientDomainTooLarge (Some i) 63 (capped_sum k (masks c))) (k + masks c < 64) ∷ domain_by i (bits_at p.degree_bits i) k c.log_max c.two_adicity) g)
      (chunks_listed i l)
      (thins_held (shape_check {R = R} (QuotientDomainTooLarge (Some i) 63 (capped_sum (log_chunks_of_table c s p i) (masks c))) (log_chunks_of_table c s p i + masks c < 64)) g g fits (thins_self g))

  sizes_thin : Thins (sizes_of (claimed c s p) {R = R} (masks c) c.log_max c.two_adicity) (in_turn (length s.tables) (domain_checks c s p {R = R}))
  sizes_thin =
      let f = sizes_fit {R = R} (masks c) c.log_max c.two_adicity p.degree_bits (tabulate (length s.tables) (log_chunks_of_table c s p)) in
      let g = domain_checks c s p {R = R} in
      subst (λ m. Thins (in_turn m f) (in_turn (length s.tables) g)) (sym (as_many s.tables)) (thins_turns f g (length s.tables) size_thin)

  counts_hold : NoneFails (counts_of (claimed c s p) {R = R} (masks c))
  unfolding NoneFails
  counts_hold = none_of_each (chunks_counted {R = R} (masks c) (tabulate (length s.tables) (log_chunks_of_table c s p)) p.instances) (length (declared s.tables))
      (λ i l. let k = within i l in
      (chunks_are R i _ _ _ _ _ _ _ (table_opened R c.field.ring (shape_bounds_of c) s p h i k) ∙ ap (λ n. 2 ^ (n + masks c)) (chunks_listed i k), tt))

  rows_hold : NoneFails (permutation_rows_of (claimed c s p) {R = R})
  unfolding NoneFails
  rows_hold = none_of_each (rows_paired {R = R} (is_there p.commitments.permutation) p.instances) (length (declared s.tables))
      (λ i l. (λ t. rows_agree R i _ _ _ _ _ _ _ (table_opened R c.field.ring (shape_bounds_of c) s p h i (within i l)), tt))

  module _ (w : WellFormed (declared s.tables) s.common) where
    matrix_thin : (m : ℕ) → m < length (matrix_tables s.common.preprocessed)
        → Thins (matrix_fits {R = R} (declared s.tables) (matrix_tables s.common.preprocessed) (entries_in s.common.preprocessed) p.degree_bits
        (preprocessed_widths (declared s.tables)) p.instances m) (metadata_check c s p {R = R} m)
    matrix_thin m l =
        let i = get_or (matrix_tables s.common.preprocessed) m 0 in
        let ds = declared s.tables in
        let o = instance_at p.instances i in
        let below = matrix_below ds s.common w m l in
        let k = within i below in
        let wide = matrix_wide ds s.common w m (no_table {F = F}).declaration l in
        let same = declared_is s.tables i k in
        let table_wide = subst (λ d. 0 < width_of d.preprocessed) same wide in
        let one = shape_check {R = R} (PreprocessedMetadataMismatch i) (0 < get_or (preprocessed_widths ds) i 0) in
        let two = shape_check {R = R} (MissingPreprocessedValues i) (is_there o.base.preprocessed ≡ true) in
        let four = shape_check {R = R} (MissingPreprocessedValues i) (has_some (declared_at ds i).preprocessed_next ≡ true → is_there (preprocessed_next_of o.base.preprocessed) ≡ true) in
        let kept = bits_listed {R = R} (entry_of s.common.preprocessed i) p.degree_bits i in
        let opened = table_opened R c.field.ring (shape_bounds_of c) s p h i k in
        subst (λ x. Thins (one ∷ two ∷ bits_listed {R = R} x p.degree_bits i ∷ four ∷ []) (kept ∷ [])) (sym (entry_same s.common.preprocessed i))
        (thins_held one (two ∷ kept ∷ four ∷ []) (kept ∷ []) (subst (λ n. 0 < n) (sym (width_is ds i below)) wide)
        (thins_held two (kept ∷ four ∷ []) (kept ∷ []) (columns_are_there R i _ _ _ _ _ _ _ opened table_wide)
        (thins_more kept (four ∷ []) []
        (thins_held four [] [] (λ t. next_columns_are_there R i _ _ _ _ _ _ _ opened table_wide (ap (λ d. has_some d.preprocessed_next) (sym same) ∙ t)) (thins_self [])))))

    pub claims_thin : Thins (made_checks {R = R} c (claimed c s p) (preprocessed_widths (declared s.tables))) (claim_checks c s p {R = R})
    unfolding made_by claim_checks
    claims_thin =
        let q = claimed c s p in
        let widths = preprocessed_widths (declared s.tables) in
        let first = first_made {R = R} (c.log_min + masks c) c.log_max q widths in
        let sizes = sizes_of q {R = R} (masks c) c.log_max c.two_adicity in
        let counts = counts_of q {R = R} (masks c) in
        let matrices = matrices_of q {R = R} widths in
        let domains = in_turn (length s.tables) (domain_checks c s p {R = R}) in
        let heights = in_turn (length (matrix_tables s.common.preprocessed)) (metadata_check c s p {R = R}) in
        thins_before (first ++ sizes ++ counts ++ matrices) (permutation_rows_of q {R = R}) (domains ++ heights)
        (thins_append (first ++ sizes ++ counts) matrices domains heights
        (thins_before (first ++ sizes) counts domains (thins_after first sizes domains first_holds sizes_thin) counts_hold)
        (thins_turns (matrix_fits {R = R} (declared s.tables) (matrix_tables s.common.preprocessed) (entries_in s.common.preprocessed) p.degree_bits widths p.instances)
        (metadata_check c s p {R = R}) (length (matrix_tables s.common.preprocessed)) matrix_thin))
        rows_hold
