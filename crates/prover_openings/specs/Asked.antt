-- What a prover of a batch asks its backend to open: the points of each round's matrices, table by table. After Plonky3's p3-batch-stark (prove_batch).
use Rattle.std.specs.Prelude.{slice_index_or as get_or}
use Rattle.std.specs.Prelude.{ℕ, ◌^◌, List, [], ◌∷◌, ◌++◌, length, map, Option, None, Some, option_map, option_to_list}
use Rattle.std.specs.Borrow.{Bor}
use Rattle.std.specs.List.{flat_map}
use Rattle.p3_field.specs.Poly.{tabulate}
use Rattle.air_core.specs.Shape.{Declaration}
use Rattle.commit_core.specs.Claims.{Request}
use Rattle.verifier_claims.specs.Claims.{matrix_tables}
use Rattle.batch_statement.specs.Words.{bits_at, declared_at}
use Rattle.prover_answer.specs.Batch.{Batch, log_parts_at, table_count}
use Rattle.batch_config.specs.Domains.{next_by}
use Rattle.batch_config.specs.Setting.{masks}
use Rattle.batch_setup.specs.Setup.{Instance}
use Rattle.batch_statement.specs.Statement.{Common, WrittenCommon, read_common}
use Rattle.law_acceptance.specs.Rounds.{points_with}
use Rattle.law_honest.specs.HonestProof.{where_some, zeta}

-- the prover data of the commitments of each round: of the traces, of the quotients' chunks, and, where there are such, of the preprocessed traces and
-- of the permutation columns
pub record RoundsProverData (D : Type 0) : Type 0 where
  pub main : D
  pub quotient : D
  pub preprocessed : Option D
  pub permutation : Option D

-- the same where the last two stand behind references
abbrev pub kept_of : {D : Type 0} → (main quotient : D) → (preprocessed permutation : Option (Bor D)) → RoundsProverData D
kept_of {D = D} main quotient preprocessed permutation = record {
  main = main;
  quotient = quotient;
  preprocessed = option_map (λ (d : Bor D). d.now) preprocessed;
  permutation = option_map (λ (d : Bor D). d.now) permutation;
}

-- what the points depend on: what the tables declare, the common data, the degree bits, and the numbers of the quotients' chunks
pub record Plan (F C : Type 0) : Type 0 where
  pub declarations : List (Declaration F)
  pub common : Common F C
  pub degree_bits : List ℕ
  pub chunk_counts : List ℕ

abbrev pub plan_of : {A F C : Type 0} → (A → Declaration F) → List (Instance A F) → WrittenCommon F C → (degree_bits chunk_counts : List ℕ) → Plan F C
plan_of declaration instances common degree_bits chunk_counts = record {
  declarations = map (λ i. declaration i.air) instances;
  common = read_common common;
  degree_bits = degree_bits;
  chunk_counts = chunk_counts;
}

-- a request for matrices that are there where some prover data is
abbrev pub request_where : {D E : Type 0} → Option D → List (List E) → List (Request D E)
request_where None points = []
request_where (Some d) points = record { prover_data = d; points = points } ∷ []

module _ {F E C : Type 0} (q : Plan F C) (point : E) (after : ℕ → E) where
  abbrev pub table_numbers : List ℕ
  table_numbers = tabulate (length q.declarations) (λ i. i)

  -- the point of table i's next row
  abbrev pub next_point_of : ℕ → E
  next_point_of i = after (bits_at q.degree_bits i)

  -- the main matrices: each at the point, and at that of the next row where next columns are declared
  abbrev pub main_points_at : ℕ → List E
  main_points_at i = points_with (declared_at q.declarations i).main_next point (next_point_of i)

  abbrev pub main_points : List (List E)
  main_points = tabulate (length q.declarations) main_points_at

  -- the chunks of the quotients, at the point
  abbrev pub chunk_points_at : ℕ → List (List E)
  chunk_points_at i = tabulate (get_or q.chunk_counts i 0) (λ j. point ∷ [])

  abbrev pub chunk_points : List (List E)
  chunk_points = flat_map chunk_points_at table_numbers

  -- the preprocessed matrices, as the main ones
  abbrev pub preprocessed_points_at : ℕ → List E
  preprocessed_points_at m =
      let i = get_or (matrix_tables q.common.preprocessed) m 0 in
      points_with (declared_at q.declarations i).preprocessed_next point (next_point_of i)

  abbrev pub preprocessed_points : List (List E)
  preprocessed_points = tabulate (length (matrix_tables q.common.preprocessed)) preprocessed_points_at

  -- and the permutation matrices of the tables with lookups, at both points
  abbrev pub permutation_points_at : ℕ → List (List E)
  permutation_points_at i = option_to_list (where_some (get_or q.common.lookups i []) (point ∷ next_point_of i ∷ []))

  abbrev pub permutation_points : List (List E)
  permutation_points = flat_map permutation_points_at table_numbers

  -- all requests, round by round
  abbrev pub asked : {D : Type 0} → RoundsProverData D → List (Request D E)
  asked rounds_data = request_where (Some rounds_data.main) main_points ++ request_where
      (Some rounds_data.quotient) chunk_points ++ request_where rounds_data.preprocessed preprocessed_points ++ request_where rounds_data.permutation permutation_points

-- what is asked of a batch, for these grinding values
module _ {S F E C : Type 0} (b : Batch S F E C) where
  abbrev pub plan_in : Plan F C
  plan_in = record {
    declarations = map (λ t. t.declaration) b.statement.tables;
    common = b.statement.common;
    degree_bits = b.degree_bits;
    chunk_counts = tabulate (table_count b) (λ i. 2 ^ log_parts_at b i);
  }

  abbrev pub asked_of : {D : Type 0} → RoundsProverData D → Option F → F → List (Request D E)
  asked_of rounds_data w z =
      let c = b.setting in
      let x = zeta c b.prover b.statement b.traces b.degree_bits w z in
      asked plan_in x (next_by c.extension.ring c.extension.embed c.field.root (masks c) x) rounds_data
