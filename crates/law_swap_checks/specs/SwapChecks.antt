-- The checks of a proof of one swap table, in plain terms and in a verifier's order (not in Plonky3): what is left of the checks of a batch where the
-- proof has the shape of an honest one. After Plonky3's p3-batch-stark (verify_batch).
use Rattle.std.specs.Prelude.{◌≡◌, ℕ, ◌+◌, ◌^◌, Bool, true, List, [], ◌∷◌, ◌++◌, map, unwrap_or, Some}
use Rattle.std.specs.Prelude.{slice_index_or as get_or}
use Rattle.p3_field.specs.BabyBear.{reduce, baby_bear_ring, baby_bear_inv, baby_bear_root}
use Rattle.p3_field.specs.Checks.{Check, check, in_turn}
use Rattle.p3_field.specs.Domain.{CosetData, point, vanishing_polynomial, first_selector, last_selector, transition_selector, IsInterpolant}
use Rattle.p3_field.specs.Field.{combine}
use Rattle.p3_field.specs.Poly.{eval_poly, DegreeBelow}
use Rattle.p3_field.specs.Quartic.{quartic_ring, of_baby_bear_value, quartic_basis}
use Rattle.p3_field.specs.declared.baby_bear.BabyBear.{BabyBear}
use Rattle.p3_field.specs.declared.quartic.QuarticExtension.{QuarticExtension}
use Rattle.p3_matrix.specs.Matrix.{Rows, column}
use Rattle.air_core.specs.Tree.{eval_tree}
use Rattle.commit_core.specs.Space.{IsPoint}
use Rattle.p3_uni_stark.specs.Fold.{fold}
use Rattle.p3_uni_stark.specs.Point.{PointValues, point_reading}
use Rattle.p3_uni_stark.specs.declared.error.VerificationError.TheVariants.{InvalidOpeningArgument, OodPointInDomain, OodEvaluationMismatch}
use Rattle.plain_pcs.specs.Scheme.{PlainCommitmentData}
use Rattle.plain_pcs.specs.declared.error.PlainError.{PlainError}
use Rattle.plain_pcs.specs.declared.error.PlainError.TheVariants.{Degree, Value}
use Rattle.air_tables.specs.Swap.{swap_trees}
use Rattle.batch_transcript.specs.BatchScript.{Draws}
use Rattle.batch_transcript.specs.declared.failure.BatchTranscriptFailure.TheVariants.{OodPowWitness}
use Rattle.batch_statement.specs.Proof.{OpenedWithLookups}
use Rattle.batch_statement.specs.declared.error.BatchVerificationError.{BatchVerificationError}
use Rattle.batch_statement.specs.declared.error.BatchVerificationError.TheVariants.{Verification, Transcript}
use Rattle.batch_statement.specs.Words.{no_opened}
use Rattle.verifier_batch.specs.BatchChecks.{drawn_of}
use Rattle.transcript_version.specs.declared.TranscriptVersion.{TranscriptVersion}
use Rattle.tool_statement.specs.Config.{tool_setting}
use Rattle.tool_statement.specs.StatedTables.{tool_statement}
use Rattle.tool_statement.specs.declared.table.TableStatement.TheVariants.{Swap}
use Rattle.law_swap_checks.specs.SwapShape.{SwapProof}

-- what a verifier over the program's configuration refuses with
abbrev pub Refusal : Type 0
Refusal = BatchVerificationError PlainError

-- the one matrix of a commitment
abbrev pub single_matrix_of : PlainCommitmentData BabyBear → Rows BabyBear
single_matrix_of c = get_or c.matrices 0 (record { values = []; width = 0 })

-- what is opened of the one table: its columns' values at zeta, those at the next point, and those of its quotient's columns at zeta
abbrev pub swap_opened_of : SwapProof → OpenedWithLookups QuarticExtension
swap_opened_of p = get_or p.instances 0 no_opened

abbrev pub local_opened : SwapProof → List QuarticExtension
local_opened p = (swap_opened_of p).base.trace_local

abbrev pub next_opened : SwapProof → List QuarticExtension
next_opened p = unwrap_or (swap_opened_of p).base.trace_next []

abbrev pub swap_chunk_opened : SwapProof → List QuarticExtension
swap_chunk_opened p = get_or (swap_opened_of p).base.quotient_chunks 0 []

-- the value of a polynomial over BabyBear at a point of its extension
abbrev pub value_at_point : List BabyBear → QuarticExtension → QuarticExtension
value_at_point f x = eval_poly quartic_ring (map of_baby_bear_value f) x

-- the domain of the table's 2^k rows: the subgroup of that size
abbrev pub swap_trace_domain : ℕ → CosetData BabyBear
swap_trace_domain k = record { shift = baby_bear_ring.one; log_size = k }

-- the domain on which columns are committed: the coset of shift 31, twice as large
abbrev pub commitment_domain : ℕ → CosetData BabyBear
commitment_domain k = record { shift = reduce 31; log_size = k + 1 }

-- the point of the next row
abbrev pub swap_next_point : (k : ℕ) → QuarticExtension → QuarticExtension
swap_next_point k zeta = quartic_ring.mul zeta (of_baby_bear_value (baby_bear_root k))

-- f is the interpolant of column j of the matrix m that is committed to
abbrev pub IsCommittedColumn : (k : ℕ) → Rows BabyBear → (j : ℕ) → List BabyBear → Type 0
IsCommittedColumn k m j f = IsInterpolant baby_bear_ring (point baby_bear_ring baby_bear_root (commitment_domain k)) (column baby_bear_ring.zero m j) f

-- that interpolant has a degree below the number of rows
abbrev pub ColumnHasLowDegree : (k : ℕ) → Rows BabyBear → (j : ℕ) → Type 0
ColumnHasLowDegree k m j = (f : List BabyBear) × IsCommittedColumn k m j f × DegreeBelow baby_bear_ring (2 ^ k) f

-- it has the value y at x
abbrev pub ColumnHasValue : (k : ℕ) → Rows BabyBear → (j : ℕ) → (x y : QuarticExtension) → Type 0
ColumnHasValue k m j x y = (f : List BabyBear) × IsCommittedColumn k m j f × (value_at_point f x ≡ y)

-- zeta is a point of the rows' domain
abbrev pub IsInTraceDomain : (k : ℕ) → (zeta : QuarticExtension) → Type 0
IsInTraceDomain k zeta = IsPoint (2 ^ k) (point baby_bear_ring baby_bear_root (swap_trace_domain k)) of_baby_bear_value zeta

-- what the table's constraints read: the opened values, the public values, and at zeta the values of the selectors of the rows' domain
abbrev pub swap_values : (k : ℕ) → (publics : List BabyBear) → (zeta : QuarticExtension) → (local next : List QuarticExtension) → PointValues BabyBear QuarticExtension
swap_values k publics zeta local next = record {
  main_local = local;
  main_next = next;
  preprocessed_local = [];
  preprocessed_next = [];
  periodic = [];
  public = publics;
  first_row = value_at_point (first_selector baby_bear_ring baby_bear_inv (swap_trace_domain k)) zeta;
  last_row = value_at_point (last_selector baby_bear_ring baby_bear_inv baby_bear_root (swap_trace_domain k)) zeta;
  transition = value_at_point (transition_selector baby_bear_ring baby_bear_inv baby_bear_root (swap_trace_domain k)) zeta;
}

-- The identity at zeta: the fold by alpha of the table's constraints is the vanishing polynomial's value times the quotient's, whose opened values are its
-- coefficients over the basis.
abbrev pub SwapIdentity : (k : ℕ) → (publics : List BabyBear) → (alpha zeta : QuarticExtension) → (local next chunk : List QuarticExtension) → Type 0
SwapIdentity k publics alpha zeta local next chunk =
    fold quartic_ring alpha (map (eval_tree (point_reading quartic_ring of_baby_bear_value (swap_values k publics zeta local next))) swap_trees)
    ≡ quartic_ring.mul (value_at_point (vanishing_polynomial baby_bear_ring baby_bear_inv (swap_trace_domain k)) zeta) (combine quartic_ring quartic_basis 0 chunk)

-- the grinding value passes the challenger's test
abbrev pub grinding_check : (passed : Bool) → List (Check Refusal)
grinding_check passed = check (Transcript (OodPowWitness 4)) (passed ≡ true) ∷ []

-- the degree of column j of a round's matrix
abbrev pub column_degree_check : (round k : ℕ) → Rows BabyBear → (j : ℕ) → List (Check Refusal)
column_degree_check round k m j = check (Verification (InvalidOpeningArgument (Degree round 0 j))) (ColumnHasLowDegree k m j) ∷ []

-- the value of column j at a point, with its number, where these values are claimed of all columns
abbrev pub column_value_check : (round k at : ℕ) → Rows BabyBear → (x : QuarticExtension) → (claimed : List QuarticExtension) → (j : ℕ) → List (Check Refusal)
column_value_check round k at m x claimed j =
    check (Verification (InvalidOpeningArgument (Value round 0 at j))) (ColumnHasValue k m j x (get_or claimed j quartic_ring.zero)) ∷ []

-- what is opened of the two columns of the table: their degrees, their values at zeta, their values at the next point
abbrev pub main_column_checks : (k : ℕ) → Rows BabyBear → (zeta : QuarticExtension) → (local next : List QuarticExtension) → List (Check Refusal)
main_column_checks k m zeta local next =
    in_turn 2 (column_degree_check 0 k m) ++ in_turn 2 (column_value_check 0 k 0 m zeta local) ++ in_turn 2 (column_value_check 0 k 1 m (swap_next_point k zeta) next)

-- what is opened of the four columns of its quotient: their degrees, their values at zeta
abbrev pub quotient_checks : (k : ℕ) → Rows BabyBear → (zeta : QuarticExtension) → (chunk : List QuarticExtension) → List (Check Refusal)
quotient_checks k m zeta chunk = in_turn 4 (column_degree_check 1 k m) ++ in_turn 4 (column_value_check 1 k 0 m zeta chunk)

-- zeta is no point of the rows' domain, and the identity holds there
abbrev pub zeta_checks : (k : ℕ) → (publics : List BabyBear) → (alpha zeta : QuarticExtension) → (local next chunk : List QuarticExtension) → List (Check Refusal)
zeta_checks k publics alpha zeta local next chunk =
    check (Verification OodPointInDomain) (IsInTraceDomain k zeta → ⊥)
    ∷ check (Verification (OodEvaluationMismatch (Some 0))) (SwapIdentity k publics alpha zeta local next chunk)
    ∷ []

-- all of them, where this was drawn
abbrev pub checks_with : {S : Type 0} → Draws S QuarticExtension → (k : ℕ) → (a b x : BabyBear) → SwapProof → List (Check Refusal)
checks_with d k a b x p =
    grinding_check d.ood_passed
    ++ main_column_checks k (single_matrix_of p.commitments.main) d.zeta (local_opened p) (next_opened p)
    ++ quotient_checks k (single_matrix_of p.commitments.quotient_chunks) d.zeta (swap_chunk_opened p)
    ++ zeta_checks k (a ∷ b ∷ x ∷ []) d.alpha d.zeta (local_opened p) (next_opened p) (swap_chunk_opened p)

-- The checks of a proof of a swap table of 2^k rows with these public values: the grinding value; what is opened of the table and of its quotient; the
-- point; the identity there. The challenges are those that a verifier of the batch draws from this statement and this proof.
unfoldable pub swap_checks : TranscriptVersion → (k : ℕ) → (a b x : BabyBear) → SwapProof → List (Check Refusal)
swap_checks version k a b x p = checks_with (drawn_of (tool_setting version) (tool_statement (Swap k a b x ∷ [])) p) k a b x p
