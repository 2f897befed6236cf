-- What a batch proof claims of its commitments, round by round. After Plonky3's p3-batch-stark (commitments_with_opening_points).
use Rattle.std.specs.Prelude.{ℕ, ◌+◌, List, [], ◌∷◌, ◌++◌, length, map, Option, None, Some, option_map}
use Rattle.std.specs.Prelude.{slice_index_or as get_or}
use Rattle.std.specs.List.{flat_map}
use Rattle.p3_field.specs.Ring.{Ring}
use Rattle.p3_field.specs.Poly.{tabulate}
use Rattle.p3_field.specs.Domain.{CosetData, subgroup}
use Rattle.air_core.specs.Shape.{Declaration}
use Rattle.commit_core.specs.Claims.{PointClaim, MatrixClaim, CommitmentClaim}
use Rattle.p3_uni_stark.specs.Opened.{PreprocessedData}
use Rattle.batch_config.specs.Setting.{Setting, masks}
use Rattle.batch_config.specs.Domains.{next_by, chunks_over}
use Rattle.batch_statement.specs.Proof.{OpenedWithLookups}
use Rattle.batch_statement.specs.Statement.{PreprocessedTracesData}
use Rattle.batch_statement.specs.declared.commitments.BatchCommitments.{BatchCommitments}
use Rattle.verifier_shape.specs.ShapeChecks.{preprocessed_next_of}
use Rattle.batch_statement.specs.Words.{no_table, no_opened, bits_at, declared_at, instance_at}

-- What claims are made of: what the AIRs declare, the preprocessed traces, the proof's commitments, what it opens of each table, its degree bits, and for
-- each table the logarithm of the number of its quotient's chunks before masking.
pub record Claimed (F E C : Type 0) : Type 0 where
  pub declarations : List (Declaration F)
  pub preprocessed : Option (PreprocessedTracesData C)
  pub commitments : BatchCommitments C
  pub instances : List (OpenedWithLookups E)
  pub degree_bits : List ℕ
  pub log_chunks : List ℕ

abbrev pub claimed_of : {A F E C : Type 0} → (A → Declaration F) → List A → Option (PreprocessedTracesData C) → BatchCommitments C → List (OpenedWithLookups E)
    → (degree_bits log_chunks : List ℕ) → Claimed F E C
claimed_of declaration airs preprocessed commitments instances degree_bits log_chunks = record {
  declarations = map declaration airs;
  preprocessed = preprocessed;
  commitments = commitments;
  instances = instances;
  degree_bits = degree_bits;
  log_chunks = log_chunks;
}

-- for each preprocessed matrix its table, and the commitment to all of them
abbrev pub matrix_tables : {C : Type 0} → Option (PreprocessedTracesData C) → List ℕ
matrix_tables None = []
matrix_tables (Some g) = g.matrix_to_instance

abbrev pub commitment_in : {C : Type 0} → Option (PreprocessedTracesData C) → Option C
commitment_in p = option_map (λ g. g.commitment) p

-- a row that is absent has no values
abbrev pub values_where_there : {E : Type 0} → Option (List E) → List E
values_where_there None = []
values_where_there (Some xs) = xs

-- the current preprocessed row, and the next one
abbrev pub preprocessed_local_row : {E : Type 0} → Option (PreprocessedData E) → List E
preprocessed_local_row None = []
preprocessed_local_row (Some p) = p.local

abbrev pub preprocessed_next_row : {E : Type 0} → Option (PreprocessedData E) → List E
preprocessed_next_row p = values_where_there (preprocessed_next_of p)

-- a row has these values at the point
abbrev pub at_point : {E : Type 0} → E → List E → PointClaim E
at_point x values = record { point = x; values = values }

-- a claim that is made where some next column is declared
abbrev pub where_declared : {E : Type 0} → List ℕ → PointClaim E → List (PointClaim E)
where_declared [] claim = []
where_declared (n ∷ ns) claim = claim ∷ []

-- claims on a matrix whose columns are given on the subgroup of size 2^bits: a table's extended domain has its degree bits
abbrev pub on_subgroup : {F E : Type 0} → Ring F → (bits : ℕ) → List (PointClaim E) → MatrixClaim E (CosetData F)
on_subgroup r bits points = record { domain = subgroup r bits; points = points }

-- the claims on a commitment, where there is one
abbrev pub claims_of_round : {E C D : Type 0} → Option C → List (MatrixClaim E D) → List (CommitmentClaim E C D)
claims_of_round None claims = []
claims_of_round (Some commitment) claims = record { commitment = commitment; matrices = claims } ∷ []

module _ {F E : Type 0} (r : Ring F) (zeta : E) where
  -- what is random of table i, at zeta
  abbrev pub random_claim : (degree_bits : List ℕ) → List (OpenedWithLookups E) → ℕ → MatrixClaim E (CosetData F)
  random_claim degree_bits instances i = on_subgroup r (bits_at degree_bits i) (at_point zeta (values_where_there (instance_at instances i).base.random) ∷ [])

  -- chunk j, at zeta: on the natural domain of the size of its own, times two where the backend masks
  abbrev pub chunk_claim : (masks : ℕ) → List (CosetData F) → List (List E) → ℕ → MatrixClaim E (CosetData F)
  chunk_claim masks domains chunks j = on_subgroup r ((get_or domains j (subgroup r 0)).log_size + masks) (at_point zeta (get_or chunks j []) ∷ [])

  -- all chunks of table i, whose domains are listed
  abbrev pub chunk_claims : (masks : ℕ) → List (List (CosetData F)) → List (OpenedWithLookups E) → ℕ → List (MatrixClaim E (CosetData F))
  chunk_claims masks domains instances i =
      tabulate (length (get_or domains i [])) (chunk_claim masks (get_or domains i []) (instance_at instances i).base.quotient_chunks)

  -- permutation columns, where the current row has a value: at zeta and at the next point
  abbrev pub where_opened : (after : E) → (bits : ℕ) → (local next : List E) → List (MatrixClaim E (CosetData F))
  where_opened after bits [] next = []
  where_opened after bits (x ∷ xs) next = on_subgroup r bits (at_point zeta (x ∷ xs) ∷ at_point after next ∷ []) ∷ []

-- where a table with so many degree bits has this next point
module _ {F E : Type 0} (r : Ring F) (zeta : E) (after : ℕ → E) where
  -- the main columns of table i, at zeta, and at the next point where next columns are declared
  abbrev pub main_claim : List (Declaration F) → (degree_bits : List ℕ) → List (OpenedWithLookups E) → ℕ → MatrixClaim E (CosetData F)
  main_claim declarations degree_bits instances i =
      on_subgroup r (bits_at degree_bits i) (at_point zeta (instance_at instances i).base.trace_local
      ∷ where_declared (declared_at declarations i).main_next (at_point (after (bits_at degree_bits i)) (values_where_there (instance_at instances i).base.trace_next)))

  -- its preprocessed columns, likewise
  abbrev pub preprocessed_claim : List (Declaration F) → (degree_bits : List ℕ) → List (OpenedWithLookups E) → ℕ → MatrixClaim E (CosetData F)
  preprocessed_claim declarations degree_bits instances i =
      on_subgroup r (bits_at degree_bits i) (at_point zeta (preprocessed_local_row (instance_at instances i).base.preprocessed)
      ∷ where_declared (declared_at declarations i).preprocessed_next
      (at_point (after (bits_at degree_bits i)) (preprocessed_next_row (instance_at instances i).base.preprocessed)))

  -- those of the table of preprocessed matrix m
  abbrev pub preprocessed_matrix_claim : List (Declaration F) → (degree_bits : List ℕ) → List (OpenedWithLookups E) → (matrices : List ℕ) → ℕ → MatrixClaim E (CosetData F)
  preprocessed_matrix_claim declarations degree_bits instances matrices m = preprocessed_claim declarations degree_bits instances (get_or matrices m 0)

  -- the permutation columns of table i
  abbrev pub permutation_claims : (degree_bits : List ℕ) → List (OpenedWithLookups E) → ℕ → List (MatrixClaim E (CosetData F))
  permutation_claims degree_bits instances i =
      where_opened r zeta (after (bits_at degree_bits i)) (bits_at degree_bits i) (instance_at instances i).permutation_local (instance_at instances i).permutation_next

-- the domains of the chunks of table i's quotient
abbrev pub chunk_domains_at : {F : Type 0} → Ring F → (root : ℕ → F) → (generator : F) → (masks : ℕ) → (degree_bits log_chunks : List ℕ) → ℕ → List (CosetData F)
chunk_domains_at r root generator masks degree_bits log_chunks i = chunks_over r root generator masks (bits_at degree_bits i) (get_or log_chunks i 0)

-- All rounds in order, by the lists that they are made of: what is random, the main columns, the quotients' chunks, the preprocessed columns, the
-- permutation columns. The preprocessed commitment and its matrices' tables are given, and the chunks' domains.
unfoldable pub claims_by : {F E C : Type 0} → Ring F → (zeta : E) → (after : ℕ → E) → (masks : ℕ) → (domains : List (List (CosetData F)))
    → List (Declaration F) → BatchCommitments C → (preprocessed : Option C) → (matrices : List ℕ) → (degree_bits : List ℕ) → List (OpenedWithLookups E)
    → List (CommitmentClaim E C (CosetData F))
claims_by r zeta after masks domains declarations commitments preprocessed matrices degree_bits instances =
    claims_of_round commitments.random (tabulate (length declarations) (random_claim r zeta degree_bits instances))
    ++ claims_of_round (Some commitments.main) (tabulate (length declarations) (main_claim r zeta after declarations degree_bits instances))
    ++ claims_of_round (Some commitments.quotient_chunks) (flat_map (chunk_claims r zeta masks domains instances) (tabulate (length declarations) (λ i. i)))
    ++ claims_of_round preprocessed (tabulate (length matrices) (preprocessed_matrix_claim r zeta after declarations degree_bits instances matrices))
    ++ claims_of_round commitments.permutation (flat_map (permutation_claims r zeta after degree_bits instances) (tabulate (length declarations) (λ i. i)))

-- the same over a configuration
module _ {S F E C : Type 0} (c : Setting S F E C) (q : Claimed F E C) where
  -- the domains of each table's chunks
  abbrev pub all_chunk_domains : List (List (CosetData F))
  all_chunk_domains =
      tabulate (length q.declarations) (chunk_domains_at c.field.ring c.field.root c.field.generator (masks c) q.degree_bits q.log_chunks)

  -- the claims of a proof at zeta
  abbrev pub claims : (zeta : E) → List (CommitmentClaim E C (CosetData F))
  claims zeta =
      claims_by c.field.ring zeta (next_by c.extension.ring c.extension.embed c.field.root (masks c) zeta) (masks c) all_chunk_domains q.declarations
      q.commitments (commitment_in q.preprocessed) (matrix_tables q.preprocessed) q.degree_bits q.instances

-- how many rounds stand before the preprocessed one
abbrev pub rounds_before : {C : Type 0} → (random : Option C) → ℕ
rounds_before None = 2
rounds_before (Some c) = 3

-- the place of the preprocessed round among the rounds, where there is one
abbrev pub place_of_preprocessed : {C : Type 0} → BatchCommitments C → Option (PreprocessedTracesData C) → Option ℕ
place_of_preprocessed commitments preprocessed = option_map (λ _. rounds_before commitments.random) preprocessed
