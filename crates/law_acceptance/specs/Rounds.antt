-- What the commitments of an honest proof hold, round by round, and the points at which each committed matrix is opened: what an honest prover
-- asks its backend to open. After Plonky3's p3-batch-stark (prove_batch).
use Rattle.std.specs.Prelude.{slice_index_or as get_or}
use Rattle.std.specs.Prelude.{◌≡◌, ℕ, ◌^◌, List, [], ◌∷◌, ◌++◌, length, map, Option, None, Some, option_to_list}
use Rattle.std.specs.List.{flat_map}
use Rattle.p3_field.specs.Domain.{CosetData}
use Rattle.p3_field.specs.Poly.{tabulate}
use Rattle.p3_field.specs.Ring.{Ring}
use Rattle.p3_matrix.specs.Matrix.{Rows}
use Rattle.commit_core.specs.Claims.{CommitmentClaim, Request}
use Rattle.commit_core.specs.Commitments.{Committed, OpenedCommitment, IsMatrixClaim, values_of}
use Rattle.commit_core.specs.Periodic.{EachFrom}
use Rattle.verifier_claims.specs.Claims.{commitment_in, matrix_tables}
use Rattle.batch_config.specs.Domains.{next_by}
use Rattle.batch_config.specs.Setting.{Setting, masks}
use Rattle.batch_statement.specs.Statement.{Statement}
use Rattle.law_committed.specs.Quotient.{honest_chunk}
use Rattle.law_valid.specs.Traced.{TracedTable, constraints, declared, log_parts, log_rows, quotient_shift, traced_at}
use Rattle.law_honest.specs.HonestProof.{Prover, alpha, challenges_at, committed_table, honest_main_commitment, honest_permutation_commitment, honest_quotient_commitment, where_some, zeta}

-- a committed matrix, by the size of its columns' domain and their polynomials, with the points at which it is opened
pub record OpenedMatrix (F E : Type 0) : Type 0 where
  pub committed : Committed F
  pub points : List E

-- a commitment with its matrices
pub record Round (F E C : Type 0) : Type 0 where
  pub commitment : C
  pub matrices : List (OpenedMatrix F E)

-- a round that is there where its commitment is
abbrev pub round_of : {F E C : Type 0} → Option C → List (OpenedMatrix F E) → List (Round F E C)
round_of None matrices = []
round_of (Some commitment) matrices = record { commitment = commitment; matrices = matrices } ∷ []

-- zeta, and the next point where next columns are declared
abbrev pub points_with : {E : Type 0} → List ℕ → (zeta after : E) → List E
points_with [] zeta after = zeta ∷ []
points_with (n ∷ ns) zeta after = zeta ∷ after ∷ []

-- of a table by itself
module _ {S F E C : Type 0} (c : Setting S F E C) (p : Prover F E C) (t : TracedTable F) (challenges : List E) (folding point : E) where
  abbrev pub point_after : E
  point_after = next_by c.extension.ring c.extension.embed c.field.root (masks c) point t.degree_bits

  abbrev pub main_opened : OpenedMatrix F E
  main_opened = record { committed = record { size = 2 ^ t.degree_bits; polynomials = (committed_table c p t challenges).main }; points = points_with (declared t).main_next point point_after }

  abbrev pub preprocessed_opened : OpenedMatrix F E
  preprocessed_opened = record {
    committed = record { size = 2 ^ t.degree_bits; polynomials = (committed_table c p t challenges).preprocessed };
    points = points_with (declared t).preprocessed_next point point_after;
  }

  abbrev pub chunk_opened : ℕ → OpenedMatrix F E
  chunk_opened j = record {
    committed = record { size = 2 ^ log_rows c t; polynomials = honest_chunk c.field c.extension (committed_table c p t challenges) (quotient_shift c) (log_parts c t) (constraints c t) folding j };
    points = point ∷ [];
  }

  abbrev pub chunks_opened : List (OpenedMatrix F E)
  chunks_opened = tabulate (2 ^ log_parts c t) chunk_opened

  abbrev pub permutation_opened : List (OpenedMatrix F E)
  permutation_opened = option_to_list (where_some t.lookups (record {
    committed = record { size = 2 ^ t.degree_bits; polynomials = (committed_table c p t challenges).permutation };
    points = point ∷ point_after ∷ [];
  }))

module _ {S F E C : Type 0} (c : Setting S F E C) (p : Prover F E C) (s : Statement F C) (traces : List (Rows F)) (degree_bits : List ℕ) (w : Option F) (z : F) where
  -- what is opened of table i
  abbrev pub of_table : {A : Type 0} → (TracedTable F → List E → E → E → A) → ℕ → A
  of_table f i = f (traced_at s traces degree_bits i) (challenges_at c p s traces degree_bits w i) (alpha c p s traces degree_bits w) (zeta c p s traces degree_bits w z)

  -- the matrices of each round: the main columns, the quotients' chunks, the preprocessed columns in the order in which common data lists them, and
  -- the permutation columns where there are lookups
  abbrev pub mains : List (OpenedMatrix F E)
  mains = tabulate (length s.tables) (of_table (main_opened c p))

  abbrev pub chunks : List (OpenedMatrix F E)
  chunks = flat_map (of_table (chunks_opened c p)) (tabulate (length s.tables) (λ i. i))

  abbrev pub preprocesseds : List (OpenedMatrix F E)
  preprocesseds = tabulate (length (matrix_tables s.common.preprocessed)) (λ m. of_table (preprocessed_opened c p) (get_or (matrix_tables s.common.preprocessed) m 0))

  abbrev pub permutations : List (OpenedMatrix F E)
  permutations = flat_map (of_table (permutation_opened c p)) (tabulate (length s.tables) (λ i. i))

  -- all rounds in order
  abbrev pub honest_rounds : List (Round F E C)
  honest_rounds =
      round_of (Some (honest_main_commitment c p s traces degree_bits)) mains
      ++ round_of (Some (honest_quotient_commitment c p s traces degree_bits w)) chunks
      ++ round_of (commitment_in s.common.preprocessed) preprocesseds
      ++ round_of (honest_permutation_commitment c p s traces degree_bits w) permutations

-- what is held of a round's matrices
abbrev pub committed_of : {F E : Type 0} → List (OpenedMatrix F E) → List (Committed F)
committed_of matrices = map (λ o. o.committed) matrices

-- the claims on a round: on its commitment, and on each matrix by a domain of its size, with its polynomials' values at its points
pub record IsRoundOf {S F E C : Type 0} (c : Setting S F E C) (r : Round F E C) (d : CommitmentClaim E C (CosetData F)) : Type 0 where
  pub commitment_is : d.commitment ≡ r.commitment
  pub matrices_are : EachFrom r.matrices d.matrices (λ o m. IsMatrixClaim c.extension.ring c.extension.embed (λ (e : CosetData F). 2 ^ e.log_size) o.committed o.points m)

-- what rounds hold, and requests for their matrices at their points, each with some prover data
abbrev pub opened_commitments_of : {F E C : Type 0} → List (Round F E C) → List (OpenedCommitment C F)
opened_commitments_of rounds = map (λ r. record { commitment = r.commitment; matrices = committed_of r.matrices }) rounds

abbrev pub AskFor : {F E C D : Type 0} → List (Round F E C) → List (Request D E) → Type 0
AskFor rounds requests = EachFrom rounds requests (λ r q. q.points ≡ map (λ o. o.points) r.matrices)

-- the values that are opened of rounds: of each matrix at each of its points the values of its polynomials
abbrev pub values_in_rounds : {F E C : Type 0} → Ring E → (F → E) → List (Round F E C) → List (List (List (List E)))
values_in_rounds r embed rounds = map (λ round. map (λ o. map (values_of r embed o.committed) o.points) round.matrices) rounds
