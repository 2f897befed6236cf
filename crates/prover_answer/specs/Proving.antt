-- What a prover of a batch answers: the checks in the order of its work, each with the refusal that names it, and the proof that it gives where none
-- fails. After Plonky3's p3-batch-stark (prove_batch).
use Rattle.std.specs.Prelude.{◌≡◌, ℕ, ◌^◌, ◌<◌, ◌≤◌, List, [], ◌∷◌, ◌++◌, All, Option}
use Rattle.p3_field.specs.Checks.{Check, in_turn}
use Rattle.p3_matrix.specs.Matrix.{Rows}
use Rattle.commit_core.specs.Claims.{Request}
use Rattle.commit_core.specs.Commitments.{AreExtensions, AreOpenedCommitments}
use Rattle.commit_core.specs.Failure.{NoneOf}
use Rattle.p3_lookup.specs.Bound.{bus_load, capped}
use Rattle.p3_lookup.specs.Bus.{batch_buses, bus_count}
use Rattle.batch_config.specs.Setting.{masks}
use Rattle.batch_setup.specs.declared.error.ProverPhase.{ProverPhase}
use Rattle.batch_setup.specs.declared.error.ProverPhase.TheVariants.{TraceCommitment, PermutationCommitment, QuotientEvaluations, QuotientCommitment, Opening}
use Rattle.verifier_shape.specs.ShapeChecks.{heights_of}
use Rattle.batch_statement.specs.Proof.{ProofData}
use Rattle.batch_transcript.specs.declared.failure.GrindStep.TheVariants.{Lookup, Ood}
use Rattle.law_honest.specs.HonestProof.{HaveFractions, IsBuilt, IsDenominatorZero, IsLookupGround, IsOodGround, LacksLookupGround, LacksOodGround, opening_state}
use Rattle.law_acceptance.specs.Rounds.{AskFor, opened_commitments_of, honest_rounds}
use Rattle.prover_answer.specs.Backend.{ProverBackend}
use Rattle.prover_answer.specs.Batch.{Batch, all_chunks, all_permutations, chunks_of, log_parts_at, main_matrices, table_count}
use Rattle.prover_answer.specs.declared.error.ProvingError.{ProvingError}
use Rattle.prover_answer.specs.declared.error.ProvingError.TheVariants.{LookupDenominatorZero, MultiplicityBound, Pcs, WitnessNotFound}

-- the error names the phase in which the backend refused, and the cause
abbrev pub IsPcsRefusal : {R : Type 0} → ProverPhase → (R → Type 0) → ProvingError R → Type 0
IsPcsRefusal phase fault e = (source : _) × (e ≡ Pcs phase source) × fault source

-- why matrices are refused, where there are some: nothing is asked for none
abbrev pub fault_of_some : {M R : Type 0} → (List M → R → Type 0) → List M → R → Type 0
fault_of_some fault [] e = ⊥
fault_of_some fault (m ∷ ms) e = fault (m ∷ ms) e

module _ {S F E C : Type 0} (b : Batch S F E C) where
  abbrev pub IsPairGroundOf : Option F → Type 0
  IsPairGroundOf w = IsLookupGround b.setting b.prover b.statement b.traces b.degree_bits w

  abbrev pub HaveFractionsFor : Option F → Type 0
  HaveFractionsFor w = HaveFractions b.setting b.prover b.statement b.traces b.degree_bits w

  abbrev pub IsGroundOf : Option F → F → Type 0
  IsGroundOf w z = IsPairGroundOf w × IsOodGround b.setting b.prover b.statement b.traces b.degree_bits w z

  -- The checks that ask nothing of the backend. On no bus do the counts, each as large as it is trusted to be, add up to the order of the field:
  abbrev pub bound_part : {R : Type 0} → List (Check (ProvingError R))
  bound_part =
      let lookups = b.statement.common.lookups in
      let load = bus_load lookups (heights_of (masks b.setting) b.degree_bits (table_count b)) in
      in_turn (bus_count (batch_buses lookups)) (λ bus. record { refusal = λ e. (e ≡ MultiplicityBound (capped bus)) × (b.setting.order ≤ load bus); holds = load bus < b.setting.order } ∷ [])

  -- some number below the order passes the grind before the lookups' pair;
  abbrev pub lookup_part : {R : Type 0} → List (Check (ProvingError R))
  lookup_part = record {
    refusal = λ e. (e ≡ WitnessNotFound Lookup) × LacksLookupGround b.setting b.prover b.statement b.traces b.degree_bits;
    holds = LacksLookupGround b.setting b.prover b.statement b.traces b.degree_bits → ⊥;
  } ∷ []

  -- no denominator is zero;
  abbrev pub fraction_part : {R : Type 0} → List (Check (ProvingError R))
  fraction_part = record {
    refusal = λ e. (i : ℕ) × (row : ℕ) × (e ≡ LookupDenominatorZero i row) × IsDenominatorZero b.setting b.prover b.statement b.traces b.degree_bits i row;
    holds = (w : Option F) → IsPairGroundOf w → HaveFractionsFor w;
  } ∷ []

  -- some number below the order passes the grind before zeta.
  abbrev pub ood_part : {R : Type 0} → List (Check (ProvingError R))
  ood_part = record {
    refusal = λ e. (e ≡ WitnessNotFound Ood) × LacksOodGround b.setting b.prover b.statement b.traces b.degree_bits;
    holds = LacksOodGround b.setting b.prover b.statement b.traces b.degree_bits → ⊥;
  } ∷ []

module _ {S F E C D P R : Type 0} (k : ProverBackend S F E C D P R) (b : Batch S F E C) where
  -- The checks of what the backend is asked: to commit to the traces,
  abbrev pub trace_part : List (Check (ProvingError R))
  trace_part = record { refusal = IsPcsRefusal TraceCommitment (k.commit_fault (main_matrices b)); holds = NoneOf (k.commit_fault (main_matrices b)) } ∷ []

  -- to the permutation columns, where there are some;
  abbrev pub permutation_part : List (Check (ProvingError R))
  permutation_part = record {
    refusal = λ e. (w : Option F) × IsPairGroundOf b w × IsPcsRefusal PermutationCommitment (fault_of_some k.commit_fault (all_permutations b w)) e;
    holds = (w : Option F) → IsPairGroundOf b w → NoneOf (fault_of_some k.commit_fault (all_permutations b w));
  } ∷ []

  -- table by table to extend the chunks of its quotient,
  abbrev pub extension_part : ℕ → List (Check (ProvingError R))
  extension_part i = record {
    refusal = λ e. (w : Option F) × IsPairGroundOf b w × IsPcsRefusal QuotientEvaluations (k.extension_fault (chunks_of b w i) (2 ^ log_parts_at b i)) e;
    holds = (w : Option F) → IsPairGroundOf b w → NoneOf (k.extension_fault (chunks_of b w i) (2 ^ log_parts_at b i));
  } ∷ []

  -- and to commit to all of these;
  abbrev pub quotient_part : List (Check (ProvingError R))
  quotient_part = record {
    refusal = λ e. (w : Option F) × IsPairGroundOf b w × ((ldes : List (Rows F)) × AreExtensions k.extends (all_chunks b w) ldes × IsPcsRefusal QuotientCommitment (k.ldes_fault ldes) e);
    holds = (w : Option F) → IsPairGroundOf b w → (ldes : List (Rows F)) × AreExtensions k.extends (all_chunks b w) ldes × NoneOf (k.ldes_fault ldes);
  } ∷ []

  -- What is asked to be opened: each round's matrices at their points, by prover data that the backend made and that holds what the round holds;
  pub record AreAsked (w : Option F) (z : F) (requests : List (Request D E)) : Type 0 where
    pub ask : AskFor (honest_rounds b.setting b.prover b.statement b.traces b.degree_bits w z) requests
    pub made : All (λ r. k.made r.prover_data) requests
    pub held : AreOpenedCommitments k.holds requests (opened_commitments_of (honest_rounds b.setting b.prover b.statement b.traces b.degree_bits w z))

  -- and the check that it is opened
  abbrev pub opening_part : List (Check (ProvingError R))
  opening_part = record {
    refusal = λ e. (w : Option F) × (z : F) × IsGroundOf b w z × ((requests : List (Request D E)) × AreAsked w z requests × IsPcsRefusal Opening (k.open_fault requests) e);
    holds = (w : Option F) (z : F) → IsGroundOf b w z → (requests : List (Request D E)) × AreAsked w z requests × NoneOf (k.open_fault requests);
  } ∷ []

  -- none of the points of the openings is excluded
  abbrev pub AvoidsExcluded : Option F → F → Type 0
  AvoidsExcluded w z = All (λ round. All (λ o. All (λ x. k.excludes x → ⊥) o.points) round.matrices) (honest_rounds b.setting b.prover b.statement b.traces b.degree_bits w z)

  -- all checks, in the order of the work
  abbrev pub proving_checks : List (Check (ProvingError R))
  proving_checks =
      bound_part b
      ++ (trace_part
      ++ (lookup_part b
      ++ (fraction_part b
      ++ (permutation_part ++ (in_turn (table_count b) extension_part ++ (quotient_part ++ (ood_part b ++ opening_part)))))))

  -- The proof that is given where none fails: it is built honestly, and the proof of its openings is what the backend gives for what it is asked, from the
  -- state of the openings.
  pub record IsHonestProof (q : ProofData F E C P) : Type 0 where
    pub built : IsBuilt b.setting b.prover b.statement b.traces b.degree_bits q
    pub requests : List (Request D E)
    pub asked : AreAsked q.lookup_pow_witness q.ood_pow_witness requests
    pub proves : k.proves (opening_state b.setting b.prover b.statement b.traces b.degree_bits q.lookup_pow_witness q.ood_pow_witness) requests q.opening_proof
