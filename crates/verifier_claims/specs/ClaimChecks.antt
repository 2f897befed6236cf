-- The checks of the call that makes a batch's claims, in its order. After Plonky3's p3-batch-stark (commitments_with_opening_points).
use Rattle.std.specs.Prelude.{◌≡◌, ℕ, ◌+◌, ◌^◌, ◌<◌, ◌≤◌, Bool, true, List, [], ◌∷◌, ◌++◌, length, All, Option, None, Some}
use Rattle.std.specs.Prelude.{slice_index_or as get_or}
use Rattle.p3_field.specs.Checks.{Check, check, in_turn}
use Rattle.p3_field.specs.Domain.{CosetData}
use Rattle.air_core.specs.Degree.{capped_sum}
use Rattle.air_core.specs.Shape.{Declaration}
use Rattle.p3_lookup.specs.declared.terminal.LookupError.TheVariants.{PermutationLengthMismatch}
use Rattle.p3_uni_stark.specs.declared.error.InvalidProofShapeError.TheVariants.{InstanceCountMismatch, DegreeBitsTooSmall, DegreeBitsTooLarge, QuotientDomainTooLarge, TraceNextMismatch, QuotientDomainsCountMismatch, PreprocessedMetadataMismatch, MissingPreprocessedValues}
use Rattle.p3_uni_stark.specs.declared.error.VerificationError.TheVariants.{RandomizationError}
use Rattle.batch_config.specs.Setting.{Setting, masks}
use Rattle.batch_statement.specs.Proof.{OpenedWithLookups}
use Rattle.batch_statement.specs.Statement.{PreprocessedTracesData}
use Rattle.batch_statement.specs.declared.error.BatchVerificationError.{BatchVerificationError}
use Rattle.batch_statement.specs.declared.error.BatchVerificationError.TheVariants.{Verification, Lookup}
use Rattle.batch_statement.specs.declared.preprocessed.PreprocessedInstanceMeta.{PreprocessedInstanceMeta}
use Rattle.verifier_shape.specs.ShapeChecks.{shape_check, HasEntries, preprocessed_next_of}
use Rattle.batch_statement.specs.Words.{is_there, has_some, declared_at, instance_at, bits_at}
use Rattle.verifier_claims.specs.Claims.{Claimed, matrix_tables}

-- the lists have these lengths, and each has an item for each of so many tables
pub record HaveClaimLengths {C : Type 0} (tables : ℕ) (preprocessed : Option (PreprocessedTracesData C)) (instances degree_bits widths chunks : ℕ) : Type 0 where
  pub instances_fit : instances ≡ tables
  pub degree_bits_fit : degree_bits ≡ tables
  pub widths_fit : widths ≡ tables
  pub chunks_fit : chunks ≡ tables
  pub entries_fit : HasEntries tables preprocessed

abbrev pub listed_check : {C R : Type 0} → (tables : ℕ) → Option (PreprocessedTracesData C) → (instances degree_bits widths chunks : ℕ) → List (Check (BatchVerificationError R))
listed_check tables preprocessed instances degree_bits widths chunks =
    shape_check InstanceCountMismatch (HaveClaimLengths tables preprocessed instances degree_bits widths chunks) ∷ []

-- the degree bits of table i lie between these two
abbrev pub bits_between : {R : Type 0} → (least most : ℕ) → (degree_bits : List ℕ) → ℕ → List (Check (BatchVerificationError R))
bits_between least most degree_bits i =
    shape_check (DegreeBitsTooSmall (Some i) least (bits_at degree_bits i)) (least ≤ bits_at degree_bits i)
    ∷ shape_check (DegreeBitsTooLarge (Some i) most (bits_at degree_bits i)) (bits_at degree_bits i ≤ most)
    ∷ []

-- where something random is committed to, something random is opened of each table
abbrev pub random_check : {E R : Type 0} → (committed : Bool) → List (OpenedWithLookups E) → List (Check (BatchVerificationError R))
random_check committed instances =
    check (Verification RandomizationError) (committed ≡ true → All (λ o. is_there o.base.random ≡ true) instances) ∷ []

-- a next row that table i declares is opened
abbrev pub next_opened_check : {F E R : Type 0} → List (Declaration F) → List (OpenedWithLookups E) → ℕ → List (Check (BatchVerificationError R))
next_opened_check declarations instances i =
    shape_check (TraceNextMismatch (Some i))
    (has_some (declared_at declarations i).main_next ≡ true → is_there (instance_at instances i).base.trace_next ≡ true) ∷ []

-- there is a domain of 2^(bits + chunks) points for the quotient of table i: a power below 2^64 that isn't above the field's two-adicity
abbrev pub domain_by : {R : Type 0} → ℕ → (bits chunks most two_adicity : ℕ) → List (Check (BatchVerificationError R))
domain_by i bits chunks most two_adicity =
    shape_check (QuotientDomainTooLarge (Some i) 63 (capped_sum bits chunks)) (bits + chunks < 64)
    ∷ shape_check (QuotientDomainTooLarge (Some i) most (capped_sum bits chunks)) (bits + chunks ≤ two_adicity)
    ∷ []

-- its number of chunks, with masking, is below 2^64, and there is that domain
abbrev pub sizes_fit : {R : Type 0} → (masks most two_adicity : ℕ) → (degree_bits log_chunks : List ℕ) → ℕ → List (Check (BatchVerificationError R))
sizes_fit masks most two_adicity degree_bits log_chunks i =
    shape_check (QuotientDomainTooLarge (Some i) 63 (capped_sum (get_or log_chunks i 0) masks)) (get_or log_chunks i 0 + masks < 64)
    ∷ domain_by i (bits_at degree_bits i) (get_or log_chunks i 0) most two_adicity

-- as many chunks are opened of it as have domains
abbrev pub chunks_counted : {E R : Type 0} → (masks : ℕ) → (log_chunks : List ℕ) → List (OpenedWithLookups E) → ℕ → List (Check (BatchVerificationError R))
chunks_counted masks log_chunks instances i =
    shape_check (QuotientDomainsCountMismatch i) (length (instance_at instances i).base.quotient_chunks ≡ 2 ^ (get_or log_chunks i 0 + masks)) ∷ []

-- what was committed of a table was made for these degree bits
abbrev pub HasDegreeBits : (bits : ℕ) → Option PreprocessedInstanceMeta → Type 0
HasDegreeBits bits None = Unit {0}
HasDegreeBits bits (Some e) = e.degree_bits ≡ bits

-- table i has this entry: its preprocessed matrix was committed for the proof's degree bits
abbrev pub bits_listed : {R : Type 0} → Option PreprocessedInstanceMeta → (degree_bits : List ℕ) → ℕ → Check (BatchVerificationError R)
bits_listed entry degree_bits i = shape_check (PreprocessedMetadataMismatch i) (HasDegreeBits (bits_at degree_bits i) entry)

-- of table i with preprocessed columns: their number isn't zero, the current row is opened, the degree bits are the entry's, and a declared next row is opened
abbrev pub columns_fit : {F E R : Type 0} → List (Declaration F) → Option PreprocessedInstanceMeta → (degree_bits widths : List ℕ) → List (OpenedWithLookups E) → ℕ
    → List (Check (BatchVerificationError R))
columns_fit declarations entry degree_bits widths instances i =
    shape_check (PreprocessedMetadataMismatch i) (0 < get_or widths i 0)
    ∷ shape_check (MissingPreprocessedValues i) (is_there (instance_at instances i).base.preprocessed ≡ true)
    ∷ bits_listed entry degree_bits i
    ∷ shape_check (MissingPreprocessedValues i)
    (has_some (declared_at declarations i).preprocessed_next ≡ true → is_there (preprocessed_next_of (instance_at instances i).base.preprocessed) ≡ true)
    ∷ []

-- the entries of all tables
abbrev pub entries_in : {C : Type 0} → Option (PreprocessedTracesData C) → List (Option PreprocessedInstanceMeta)
entries_in None = []
entries_in (Some g) = g.instances

-- the same of the table of preprocessed matrix m, where these lists have each matrix's table and each table's entry
abbrev pub matrix_fits : {F E R : Type 0} → List (Declaration F) → (matrices : List ℕ) → (entries : List (Option PreprocessedInstanceMeta)) → (degree_bits widths : List ℕ)
    → List (OpenedWithLookups E) → ℕ → List (Check (BatchVerificationError R))
matrix_fits declarations matrices entries degree_bits widths instances m =
    let i = get_or matrices m 0 in
    columns_fit declarations (get_or entries i None) degree_bits widths instances i

-- where permutation columns are committed to, the two opened rows of table i have one length
abbrev pub rows_paired : {E R : Type 0} → (committed : Bool) → List (OpenedWithLookups E) → ℕ → List (Check (BatchVerificationError R))
rows_paired committed instances i =
    check (Lookup (PermutationLengthMismatch i))
    (committed ≡ true → length (instance_at instances i).permutation_local ≡ length (instance_at instances i).permutation_next) ∷ []

-- the same over all tables and matrices
module _ {F E C : Type 0} (q : Claimed F E C) where
  abbrev pub listed_of : {R : Type 0} → (widths : List ℕ) → List (Check (BatchVerificationError R))
  listed_of widths = listed_check (length q.declarations) q.preprocessed (length q.instances) (length q.degree_bits) (length widths) (length q.log_chunks)

  abbrev pub degree_bits_of : {R : Type 0} → (least most : ℕ) → List (Check (BatchVerificationError R))
  degree_bits_of least most = in_turn (length q.declarations) (bits_between least most q.degree_bits)

  abbrev pub random_of : {R : Type 0} → List (Check (BatchVerificationError R))
  random_of = random_check (is_there q.commitments.random) q.instances

  abbrev pub nexts_of : {R : Type 0} → List (Check (BatchVerificationError R))
  nexts_of = in_turn (length q.declarations) (next_opened_check q.declarations q.instances)

  abbrev pub sizes_of : {R : Type 0} → (masks most two_adicity : ℕ) → List (Check (BatchVerificationError R))
  sizes_of masks most two_adicity = in_turn (length q.declarations) (sizes_fit masks most two_adicity q.degree_bits q.log_chunks)

  abbrev pub counts_of : {R : Type 0} → (masks : ℕ) → List (Check (BatchVerificationError R))
  counts_of masks = in_turn (length q.declarations) (chunks_counted masks q.log_chunks q.instances)

  abbrev pub matrices_of : {R : Type 0} → (widths : List ℕ) → List (Check (BatchVerificationError R))
  matrices_of widths =
      in_turn (length (matrix_tables q.preprocessed))
      (matrix_fits q.declarations (matrix_tables q.preprocessed) (entries_in q.preprocessed) q.degree_bits widths q.instances)

  abbrev pub permutation_rows_of : {R : Type 0} → List (Check (BatchVerificationError R))
  permutation_rows_of = in_turn (length q.declarations) (rows_paired (is_there q.commitments.permutation) q.instances)

-- What the checks leave of the lists, for so many tables: each has an item for each table, the degree bits are at least `masks` and at most the two-adicity,
-- as many chunks are opened of a table as have domains, and these domains are small enough.
pub record AreSized {F E : Type 0} (masks two_adicity tables : ℕ) (degree_bits : List ℕ) (instances : List (OpenedWithLookups E)) (domains : List (List (CosetData F))) : Type 0 where
  pub bits_fit : length degree_bits ≡ tables
  pub instances_fit : length instances ≡ tables
  pub domains_fit : length domains ≡ tables
  pub masked : (i : ℕ) → i < tables → masks ≤ bits_at degree_bits i
  pub fits : (i : ℕ) → i < tables → bits_at degree_bits i ≤ two_adicity
  pub count : (i : ℕ) → i < tables → length (instance_at instances i).base.quotient_chunks ≡ length (get_or domains i [])
  pub chunks : (i : ℕ) → i < tables → All (λ d. d.log_size + masks ≤ two_adicity) (get_or domains i [])

-- the checks before any domain is made, where degree bits lie between these two: the lists' lengths, the degree bits, what is random, declared next rows
unfoldable pub first_made : {F E C R : Type 0} → (least most : ℕ) → Claimed F E C → (widths : List ℕ) → List (Check (BatchVerificationError R))
first_made least most q widths = listed_of q widths ++ degree_bits_of q least most ++ random_of q ++ nexts_of q

-- all checks, over a field of this two-adicity: after the first the quotients' domains, the numbers of chunks, the preprocessed columns, permutation
-- rows
unfoldable pub made_by : {F E C R : Type 0} → (masks least most two_adicity : ℕ) → Claimed F E C → (widths : List ℕ) → List (Check (BatchVerificationError R))
made_by masks least most two_adicity q widths =
    first_made least most q widths ++ sizes_of q masks most two_adicity ++ counts_of q masks ++ matrices_of q widths ++ permutation_rows_of q

-- the same of a configuration
abbrev pub made_checks : {S F E C R : Type 0} → Setting S F E C → Claimed F E C → (widths : List ℕ) → List (Check (BatchVerificationError R))
made_checks c q widths = made_by (masks c) (c.log_min + masks c) c.log_max c.two_adicity q widths
