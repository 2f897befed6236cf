-- The check that a batch is opened, and what a prover has before it.
use Rattle.std.specs.Prelude.{◌≡◌, ◌⊎◌, List, [], ◌∷◌, Option, None, Some, Result, IfErr}
use Rattle.p3_field.specs.Poly.{tabulate}
use Rattle.p3_field.specs.Checks.{Check}
use Rattle.p3_field.specs.Domain.{CosetData}
use Rattle.p3_matrix.specs.Matrix.{Rows}
use Rattle.commit_core.specs.Claims.{CommitmentClaim, Request}
use Rattle.commit_core.specs.Failure.{NoneOf}
use Rattle.prover_answer.specs.Backend.{ProverBackend}
use Rattle.prover_answer.specs.Batch.{Batch, all_chunks, all_permutations, main_matrices, table_at, table_count}
use Rattle.prover_answer.specs.Proving.{AreAsked, AvoidsExcluded, IsGroundOf, IsPcsRefusal}
use Rattle.prover_answer.specs.Verdict.{IsProverVerdict}
use Rattle.prover_answer.specs.declared.error.ProvingError.{ProvingError}
use Rattle.prover_answer.specs.declared.error.ProvingError.TheVariants.{OutOfMemory}
use Rattle.batch_statement.specs.Proof.{OpenedWithLookups}
use Rattle.batch_setup.specs.declared.error.ProverPhase.TheVariants.{Opening}
use Rattle.law_honest.specs.HonestProof.{alpha, challenges_at, honest_claims, honest_main_commitment, opened_of, opening_state, honest_permutation_commitment, honest_quotient_commitment, zeta}
use Rattle.prover_openings.specs.Asked.{RoundsProverData, asked_of}

-- both are there, and in the relation, or neither is
abbrev pub AreBoth : {X Y : Type 0} → (X → Y → Type 0) → Option X → Option Y → Type 0
AreBoth R None None = Unit {0}
AreBoth R None (Some y) = ⊥
AreBoth R (Some x) None = ⊥
AreBoth R (Some x) (Some y) = R x y

-- the answer of an opening: it is refused exactly where there is a cause
abbrev pub IsOpenedBy : {T R : Type 0} → (R → Type 0) → Result T (ProvingError R) → Type 0
IsOpenedBy faults result = IsProverVerdict (record { refusal = IsPcsRefusal Opening faults; holds = NoneOf faults } ∷ []) result

-- an error but out of memory leaves a state as it was
abbrev pub KeepsState : {T R S : Type 0} → Result T (ProvingError R) → (new old : S) → Type 0
KeepsState result new old = IfErr result (λ e. e ≡ OutOfMemory ⊎ new ≡ old)

module _ {S F E C : Type 0} (b : Batch S F E C) where
  -- for all grinding values that pass, what is opened of the tables is what an honest proof opens
  abbrev pub AreOpenedAll : List (OpenedWithLookups E) → Type 0
  AreOpenedAll opened =
      (w : Option F) (z : F) → IsGroundOf b w z
      → opened ≡ tabulate (table_count b)
      (λ i. opened_of b.setting b.prover (table_at b i) (challenges_at b.setting b.prover b.statement b.traces b.degree_bits w i) (alpha b.setting b.prover b.statement b.traces b.degree_bits w)
      (zeta b.setting b.prover b.statement b.traces b.degree_bits w z))

  -- and a state is that after the requests of an honest prover, by this function, from the state in which it opens
  abbrev pub IsLeftAfter : {D P : Type 0} → RoundsProverData D → (after_open : S → List (Request D E) → P → S) → S → P → Type 0
  IsLeftAfter kept after_open state opening =
      (w : Option F) (z : F) → IsGroundOf b w z → state ≡ after_open (opening_state b.setting b.prover b.statement b.traces b.degree_bits w z) (asked_of b kept w z) opening

module _ {S F E C D P R : Type 0} (k : ProverBackend S F E C D P R) (b : Batch S F E C) where
  -- and the backend takes the proof for the claims of an honest proof, unless a point is excluded
  abbrev pub IsTakenForAll : (opens : S → List (CommitmentClaim E C (CosetData F)) → P → Type 0) → P → Type 0
  IsTakenForAll opens opening =
      (w : Option F) (z : F) → IsGroundOf b w z → AvoidsExcluded k b w z
      → opens (opening_state b.setting b.prover b.statement b.traces b.degree_bits w z) (honest_claims b.setting b.prover b.statement b.traces b.degree_bits w z opening) opening

  -- and the requests are those of an honest prover, and the proof is what the backend gives for them
  abbrev pub IsProofOfAsked : RoundsProverData D → (proves : S → List (Request D E) → P → Type 0) → P → Type 0
  IsProofOfAsked kept proves opening =
      (w : Option F) (z : F) → IsGroundOf b w z
      → AreAsked k b w z (asked_of b kept w z) × proves (opening_state b.setting b.prover b.statement b.traces b.degree_bits w z) (asked_of b kept w z) opening

module _ {S F E C D P R : Type 0} (k : ProverBackend S F E C D P R) (b : Batch S F E C) (kept : RoundsProverData D) where
  -- The check that what is asked, of these prover data, is opened. It is what an honest prover asks, and the backend has no cause to refuse it, or the refusal
  -- names the cause.
  abbrev pub opening_request_checks : List (Check (ProvingError R))
  opening_request_checks = record {
    refusal = λ e. (w : Option F) × (z : F) × IsGroundOf b w z × AreAsked k b w z (asked_of b kept w z) × IsPcsRefusal Opening (k.open_fault (asked_of b kept w z)) e;
    holds = (w : Option F) (z : F) → IsGroundOf b w z → AreAsked k b w z (asked_of b kept w z) × NoneOf (k.open_fault (asked_of b kept w z));
  } ∷ []

  -- What a prover has where it opens: two grinding values, zeta, the challenger's state, and prover data that belongs to the commitments to the traces, to the
  -- quotients' chunks, and to the permutation columns, where there are such.
  pub record IsReady (commits : List (CosetData F × Rows F) → C × D → Type 0) (point : E) (state : S) : Type 0 where
    pub lookup_witness : Option F
    pub ood_witness : F
    pub is_ground : IsGroundOf b lookup_witness ood_witness
    pub point_is : point ≡ zeta b.setting b.prover b.statement b.traces b.degree_bits lookup_witness ood_witness
    pub state_is : state ≡ opening_state b.setting b.prover b.statement b.traces b.degree_bits lookup_witness ood_witness
    pub main : commits (main_matrices b) (honest_main_commitment b.setting b.prover b.statement b.traces b.degree_bits, kept.main)
    pub quotient : commits (all_chunks b lookup_witness) (honest_quotient_commitment b.setting b.prover b.statement b.traces b.degree_bits lookup_witness, kept.quotient)
    pub permutation : AreBoth (λ c d. commits (all_permutations b lookup_witness) (c, d))
        (honest_permutation_commitment b.setting b.prover b.statement b.traces b.degree_bits lookup_witness) kept.permutation
