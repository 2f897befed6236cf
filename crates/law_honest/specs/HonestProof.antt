-- The honest proof of a statement with traces, by parts in the order of its script, and the events for which there is none. After Plonky3's
-- p3-batch-stark (prove_batch). Nothing is masked: nothing in it is random.
use Rattle.std.specs.Prelude.{slice_index_or as get_or}
use Rattle.std.specs.Prelude.{◌≡◌, ℕ, zero, suc, ◌+◌, ◌*◌, ◌^◌, ◌<◌, List, [], ◌∷◌, ◌++◌, length, map, Option, None, Some, option_map, option_to_list}
use Rattle.std.specs.List.{filter_map, flat_map}
use Rattle.p3_field.specs.Poly.{tabulate}
use Rattle.p3_field.specs.Ring.{Ring, of_nat}
use Rattle.p3_field.specs.Domain.{CosetData, point, subgroup}
use Rattle.p3_matrix.specs.Matrix.{Rows, height, row_at}
use Rattle.p3_challenger.specs.Script.{ChallengerOf, Played, begun, play}
use Rattle.commit_core.specs.Claims.{CommitmentClaim}
use Rattle.p3_lookup.specs.Generated.{IsFirstZeroOf, argument_over}
use Rattle.p3_lookup.specs.Honest.{Argument, RowHasInverses, honest_cell, running_sum}
use Rattle.batch_transcript.specs.BatchScript.{BatchShapeData, bindings_script, main_script, ood_script, pair_script, permutation_script, preprocessed_script, quotient_script, seeded}
use Rattle.batch_transcript.specs.Buses.{batch_layout}
use Rattle.batch_transcript.specs.Grinding.{IsGround, IsPairGround, LacksPairGround, NonePasses}
use Rattle.batch_transcript.specs.Running.{drawn_along}
use Rattle.batch_config.specs.Domains.{next_by}
use Rattle.batch_config.specs.Setting.{Backend, Setting, masks}
use Rattle.batch_statement.specs.Proof.{OpenedWithLookups, ProofData}
use Rattle.batch_statement.specs.Statement.{Statement}
use Rattle.verifier_draws.specs.Draws.{script_shape}
use Rattle.verifier_claims.specs.Claims.{claims}
use Rattle.verifier_batch.specs.OpeningChecks.{claimed}
use Rattle.law_committed.specs.Committed.{CommittedTable, columns_at}
use Rattle.law_committed.specs.Identity.{chunk_values}
use Rattle.law_committed.specs.Quotient.{chunk_domain, honest_quotient, quotient_domain, quotient_value}
use Rattle.law_committed.specs.Rows.{flattened_matrix}
use Rattle.law_valid.specs.Traced.{TracedTable, all_traced, committed_with, constraints, declared, log_parts, log_rows, no_rows, quotient_shift, traced_at}

-- what fixes an honest prover beside the configuration: the inverses of the challenges' field, the canonical number of a value of the base
-- field, and the backend's commitment to matrices on domains
pub record Prover (F E C : Type 0) : Type 0 where
  pub inverse : E → E
  pub canonical : F → ℕ
  pub commitment_of : List (CosetData F × Rows F) → C

-- each value of the base field is as many ones as its canonical number says, which is below the order
pub record AreCanonical {F : Type 0} (r : Ring F) (order : ℕ) (canonical : F → ℕ) : Type 0 where
  pub ones : (x : F) → of_nat r (canonical x) ≡ x
  pub below : (x : F) → canonical x < order

module _ {S F E M : Type 0} (c : ChallengerOf S F E M) where
  -- the challenger's state after a script, and the first challenge that is drawn along it, where one is
  abbrev pub state_after_script : S → List (Played F E M) → S
  state_after_script s script = (play c (begun E s) script).state

  abbrev pub first_drawn : E → S → List (Played F E M) → E
  first_drawn z s script = get_or (drawn_along c s script) 0 z

-- where a list isn't empty, this value
abbrev pub where_some : {A B : Type 0} → List A → B → Option B
where_some [] y = None
where_some (x ∷ xs) y = Some y

-- what is committed to, where there is something
abbrev pub committed_where : {A C : Type 0} → (List A → C) → List A → Option C
committed_where commitment_of [] = None
committed_where commitment_of (x ∷ xs) = Some (commitment_of (x ∷ xs))

-- of a table by itself, for the challenges of its lookups
module _ {S F E C : Type 0} (c : Setting S F E C) (p : Prover F E C) (t : TracedTable F) (challenges : List E) where
  -- what fixes its permutation columns
  abbrev pub argument_of_table : Argument F E
  argument_of_table =
      argument_over c.field.ring c.extension.ring p.inverse c.extension.embed t.trace (declared t).preprocessed t.publics t.lookups challenges

  -- no denominator of its fractions is zero
  abbrev pub HasFractions : Type 0
  HasFractions = (row : ℕ) → row < 2 ^ log_rows c t → RowHasInverses argument_of_table row

  -- its permutation columns: the running sum of the fractions, which begins at zero, and the fractions; none without lookups
  abbrev pub columns_for : ℕ → Rows E
  columns_for zero = no_rows
  columns_for (suc n) = record { values = flat_map (λ row. tabulate (suc n + 1) (honest_cell argument_of_table row)) (tabulate (2 ^ log_rows c t) (λ row. row)); width = suc n + 1 }

  unfoldable pub permutation_columns : Rows E
  permutation_columns = columns_for (length t.lookups)

  -- its terminal, the sum of all fractions, where it has lookups
  unfoldable pub honest_terminal : Option E
  honest_terminal = where_some t.lookups (running_sum argument_of_table (2 ^ log_rows c t))

  -- the table that is committed to
  unfoldable pub committed_table : CommittedTable F E
  committed_table = committed_with c t permutation_columns challenges (option_to_list honest_terminal)

  -- what is committed of its permutation columns: their coefficients, on the rows' domain
  abbrev pub permutation_matrices : List (CosetData F × Rows F)
  permutation_matrices = option_to_list (where_some t.lookups (subgroup c.field.ring t.degree_bits, flattened_matrix c.extension permutation_columns))

  -- of its quotient, where alpha folds its constraints
  module _ (alpha : E) where
    -- the quotient's value at point i of its domain, as coefficients
    abbrev pub quotient_row : ℕ → List F
    quotient_row i =
        c.extension.coefficients (quotient_value c.field c.extension committed_table (quotient_shift c) (log_parts c t) (constraints c t) alpha
        (point c.field.ring c.field.root (quotient_domain c.field c.extension committed_table (quotient_shift c) (log_parts c t)) i))

    -- a matrix has all these values, row by row
    pub record HasQuotientRows (m : Rows F) : Type 0 where
      pub width_is : m.width ≡ c.extension.dimension
      pub height_is : height m ≡ 2 ^ log_rows c t * 2 ^ log_parts c t
      pub row_is : (i : ℕ) → i < 2 ^ log_rows c t * 2 ^ log_parts c t → row_at m i ≡ quotient_row i

    -- chunk n: row j is row n + C j of the quotient, which has C chunks
    abbrev pub chunk_rows : ℕ → Rows F
    chunk_rows n = record { values = flat_map (λ j. quotient_row (n + 2 ^ log_parts c t * j)) (tabulate (2 ^ log_rows c t) (λ j. j)); width = c.extension.dimension }

    -- the chunks, each on its part of the quotient's domain
    abbrev pub chunk_matrices : List (CosetData F × Rows F)
    chunk_matrices =
        tabulate (2 ^ log_parts c t) (λ n. (chunk_domain c.field c.extension committed_table (quotient_shift c) (log_parts c t) n, chunk_rows n))

    -- What is opened at zeta, and at the next point where next columns are declared: the committed polynomials' values.
    unfoldable pub opened_of : (zeta : E) → OpenedWithLookups E
    opened_of zeta =
        let k = committed_table in let e = c.extension in
        let after = next_by e.ring e.embed c.field.root (masks c) zeta t.degree_bits in
        record {
          base = record {
            trace_local = columns_at c.field e k k.main zeta;
            trace_next = where_some (declared t).main_next (columns_at c.field e k k.main after);
            preprocessed = option_map (λ m. record {
              local = columns_at c.field e k k.preprocessed zeta;
              next = where_some (declared t).preprocessed_next (columns_at c.field e k k.preprocessed after);
            }) (declared t).preprocessed;
            quotient_chunks = chunk_values c.field e (honest_quotient c.field e k (quotient_shift c) (log_parts c t) (constraints c t) alpha) zeta;
            random = None;
          };
          permutation_local = columns_at c.field e k k.permutation zeta;
          permutation_next = columns_at c.field e k k.permutation after;
        }

module _ {S F E C : Type 0} (c : Setting S F E C) (p : Prover F E C) (s : Statement F C) (traces : List (Rows F)) (degree_bits : List ℕ) where
  abbrev pub tables : List (TracedTable F)
  tables = all_traced s traces degree_bits

  -- the degree bits are the logarithms of the traces' heights, and one more where the backend masks
  pub record AreLogHeights : Type 0 where
    pub bits_long : length degree_bits ≡ length s.tables
    pub traces_long : length traces ≡ length s.tables
    pub each : (i : ℕ) → i < length s.tables → height (traced_at s traces degree_bits i).trace ≡ 2 ^ log_rows c (traced_at s traces degree_bits i)

  abbrev pub shape : BatchShapeData
  shape = script_shape c.version c.zk c.lookup_bits c.ood_bits s

  -- The commitment to the traces, each on the rows' domain; and the state after it, the public values and the preprocessed commitment
  abbrev pub honest_main_commitment : C
  honest_main_commitment = p.commitment_of (map (λ t. (subgroup c.field.ring t.degree_bits, t.trace)) tables)

  unfoldable pub state_at_pair : S
  state_at_pair =
      state_after_script c.challenger (seeded c.challenger c.field.ring c.extension.dimension shape c.initial)
      (bindings_script c.extension.ring c.extension.dimension degree_bits ++ main_script honest_main_commitment s.publics ++ preprocessed_script (option_map (λ g. g.commitment) s.common.preprocessed))

  -- the grinding value before the lookups' pair is the least that passes, and there is none without lookups
  abbrev pub IsLookupGround : Option F → Type 0
  IsLookupGround w = IsPairGround c.challenger c.field.ring p.canonical state_at_pair shape.num_lookup_instances c.lookup_bits w

  -- for this value:
  module _ (lookup_witness : Option F) where
    abbrev pub played_pair_steps : List (Played F E C)
    played_pair_steps = pair_script c.extension.dimension shape.num_lookup_instances c.lookup_bits lookup_witness

    -- the pair that is drawn for the lookups, and table i's challenges: for each lookup the base of its bus, then beta
    unfoldable pub pair : List E
    pair = drawn_along c.challenger state_at_pair played_pair_steps

    abbrev pub challenges_at : ℕ → List E
    challenges_at i = get_or (batch_layout c.extension.ring pair s.common.lookups) i []

    unfoldable pub state_at_permutation : S
    state_at_permutation = state_after_script c.challenger state_at_pair played_pair_steps

    -- what is made of table i for its challenges
    abbrev pub argument_at : ℕ → Argument F E
    argument_at i = argument_of_table c p (traced_at s traces degree_bits i) (challenges_at i)

    abbrev pub FractionsAt : ℕ → Type 0
    FractionsAt i = HasFractions c p (traced_at s traces degree_bits i) (challenges_at i)

    abbrev pub honest_committed_at : ℕ → CommittedTable F E
    honest_committed_at i = committed_table c p (traced_at s traces degree_bits i) (challenges_at i)

    -- the terminals, and the commitment to the permutation columns of the tables with lookups
    abbrev pub terminals : List (Option E)
    terminals = tabulate (length s.tables) (λ i. honest_terminal c p (traced_at s traces degree_bits i) (challenges_at i))

    abbrev pub honest_permutation_commitment : Option C
    honest_permutation_commitment =
        committed_where p.commitment_of (flat_map (λ i. permutation_matrices c p (traced_at s traces degree_bits i) (challenges_at i)) (tabulate (length s.tables) (λ i. i)))

    abbrev pub alpha_steps : List (Played F E C)
    alpha_steps = permutation_script c.extension.dimension honest_permutation_commitment (filter_map (λ t. t) terminals)

    -- the challenge that folds the constraints
    unfoldable pub alpha : E
    alpha = first_drawn c.challenger c.extension.ring.zero state_at_permutation alpha_steps

    unfoldable pub state_at_quotient : S
    state_at_quotient = state_after_script c.challenger state_at_permutation alpha_steps

    -- the commitment to the chunks of all quotients
    abbrev pub honest_quotient_commitment : C
    honest_quotient_commitment = p.commitment_of (flat_map (λ i. chunk_matrices c p (traced_at s traces degree_bits i) (challenges_at i) alpha) (tabulate (length s.tables) (λ i. i)))

    unfoldable pub state_at_ood : S
    state_at_ood = state_after_script c.challenger state_at_quotient (quotient_script honest_quotient_commitment None)

    -- the grinding value before zeta is the least that passes
    abbrev pub IsOodGround : F → Type 0
    IsOodGround w = IsGround c.challenger c.field.ring p.canonical state_at_ood c.ood_bits w

    -- for this value:
    module _ (ood_witness : F) where
      abbrev pub zeta_steps : List (Played F E C)
      zeta_steps = ood_script c.extension.dimension c.ood_bits ood_witness

      -- the point of the openings, and the state in which they are proved
      unfoldable pub zeta : E
      zeta = first_drawn c.challenger c.extension.ring.zero state_at_ood zeta_steps

      unfoldable pub opening_state : S
      opening_state = state_after_script c.challenger state_at_ood zeta_steps

      -- the proof, with this proof of its openings
      unfoldable pub honest_proof : {P : Type 0} → P → ProofData F E C P
      honest_proof opening = record {
        commitments = record { main = honest_main_commitment; permutation = honest_permutation_commitment; quotient_chunks = honest_quotient_commitment; random = None };
        instances = tabulate (length s.tables) (λ i. opened_of c p (traced_at s traces degree_bits i) (challenges_at i) alpha zeta);
        opening_proof = opening;
        lookup_terminals = terminals;
        degree_bits = degree_bits;
        lookup_pow_witness = lookup_witness;
        ood_pow_witness = ood_witness;
      }

      -- what it claims of its commitments
      abbrev pub honest_claims : {P : Type 0} → P → List (CommitmentClaim E C (CosetData F))
      honest_claims opening = claims c (claimed c s (honest_proof opening)) zeta

  -- every table has its fractions
  abbrev pub HaveFractions : Option F → Type 0
  HaveFractions w = (i : ℕ) → i < length s.tables → FractionsAt w i

  -- The proof q is built honestly: the degree bits are those of the traces, both grinding values are the least that pass, no denominator is
  -- zero, and it is made of these with some proof of its openings.
  pub record IsBuilt {P : Type 0} (q : ProofData F E C P) : Type 0 where
    pub heights : AreLogHeights
    pub lookup_ground : IsLookupGround q.lookup_pow_witness
    pub has_fractions : HaveFractions q.lookup_pow_witness
    pub ood_ground : IsOodGround q.lookup_pow_witness q.ood_pow_witness
    pub proof_is : q ≡ honest_proof q.lookup_pow_witness q.ood_pow_witness q.opening_proof

  -- It is honest: the backend also takes its proof of the openings.
  pub record IsHonest {P R : Type 0} (backend : Backend S F E C P R) (q : ProofData F E C P) : Type 0 where
    pub built : IsBuilt q
    pub opened : backend.opens (opening_state q.lookup_pow_witness q.ood_pow_witness) (honest_claims q.lookup_pow_witness q.ood_pow_witness q.opening_proof) q.opening_proof

  -- The events for which there is no honest proof, in order. No number below the order passes the lookups' grind:
  abbrev pub LacksLookupGround : Type 0
  LacksLookupGround = LacksPairGround c.challenger c.field.ring c.order state_at_pair shape.num_lookup_instances c.lookup_bits

  -- a denominator is zero: the first, by tables and then by rows;
  pub record IsDenominatorZero (i row : ℕ) : Type 0 where
    pub witness : Option F
    pub is_ground : IsLookupGround witness
    pub within : i < length s.tables
    pub before : (j : ℕ) → j < i → FractionsAt witness j
    pub lookup : ℕ
    pub tuple : ℕ
    pub first : IsFirstZeroOf (argument_at witness i) (2 ^ log_rows c (traced_at s traces degree_bits i)) row lookup tuple

  -- no number below the order passes the grind before zeta
  pub record LacksOodGround : Type 0 where
    pub witness : Option F
    pub is_ground : IsLookupGround witness
    pub has_fractions : HaveFractions witness
    pub none : NonePasses c.challenger c.field.ring c.order (state_at_ood witness) c.ood_bits

  -- there is a denominator that is zero
  abbrev pub HasZeroDenominator : Type 0
  HasZeroDenominator = (i : ℕ) × (row : ℕ) × IsDenominatorZero i row

  -- Where none comes, there are grinding values with which a proof is built honestly, whatever proves its openings
  abbrev pub CanBeBuilt : (P : Type 0) → Type 0
  CanBeBuilt P = (w : Option F) × (z : F) × ((opening : P) → IsBuilt (honest_proof w z opening))
