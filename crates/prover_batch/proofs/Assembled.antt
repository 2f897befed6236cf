-- A proof that is put together of what the stages give is the honest one.
use Rattle.std.proofs.Common.{◌≡◌, ℕ, List, [], ◌∷◌, Option, None, Some, sym, subst}
use Rattle.std.specs.Prelude.{option_map}
use Rattle.commit_core.specs.Claims.{Request}
use Rattle.batch_statement.specs.Proof.{OpenedWithLookups, ProofData}
use Rattle.batch_config.specs.Setting.{Backend}
use Rattle.law_honest.specs.HonestProof.{IsBuilt, IsHonest, honest_claims, honest_proof}
use Rattle.law_honest.specs.Laws.Generated.{traced_heights}
use Rattle.prover_answer.specs.Backend.{ProverBackend}
use Rattle.prover_answer.specs.Batch.{Batch, CommitsToSome, IsTracedAll}
use Rattle.prover_answer.specs.Proving.{AreAsked, AvoidsExcluded, HaveFractionsFor, IsGroundOf, IsHonestProof}
use Rattle.prover_openings.specs.Check.{AreBoth}
use Rattle.prover_batch.specs.Stages.{main_of, opened_tables, permutation_commitment, quotient_of, state_of_opening, terminals_of}

-- a commitment that is there, and what is kept beside it
pub both_of : {M C D : Type 0} (commits : List M → C × D → Type 0) (ms : List M) (o : Option (C × D)) (x : Option C) (y : Option D)
    → option_map (λ t. t.0) o ≡ x → option_map (λ t. t.1) o ≡ y → CommitsToSome commits ms o → AreBoth (λ c d. commits ms (c, d)) x y
both_of commits ms o x y ex ey h =
    let R = AreBoth (λ c d. commits ms (c, d)) in
    subst (λ z. R z y) ex (subst (R (option_map (λ t. t.0) o)) ey (parted commits ms o h))
  where
    parted : {M C D : Type 0} (commits : List M → C × D → Type 0) (ms : List M) (o : Option (C × D)) → CommitsToSome commits ms o → AreBoth (λ c d. commits ms (c, d)) (option_map (λ t. t.0) o) (option_map (λ t. t.1) o)
    parted commits [] None h = tt
    parted commits [] (Some t) h = absurd h
    parted commits (m ∷ ms) None h = absurd h
    parted commits (m ∷ ms) (Some t) h = h

module _ {S F E C : Type 0} (b : Batch S F E C) where
  -- the proof that is put together of these
  abbrev pub put_together : {P : Type 0} → C → Option C → C → List (OpenedWithLookups E) → P → List (Option E) → List ℕ → Option F → F → ProofData F E C P
  put_together main permutation quotient opened opening ends bits w z = record {
    commitments = record { main = main; permutation = permutation; quotient_chunks = quotient; random = None };
    instances = opened;
    opening_proof = opening;
    lookup_terminals = ends;
    degree_bits = bits;
    lookup_pow_witness = w;
    ood_pow_witness = z;
  }

  pub built_of : {P : Type 0} (main : C) (permutation : Option C) (quotient : C) (opened : List (OpenedWithLookups E)) (opening : P) (ends : List (Option E)) (bits : List ℕ) (w : Option F) (z : F)
      → IsTracedAll b → main ≡ main_of b → permutation ≡ permutation_commitment b w → quotient ≡ quotient_of b w → opened ≡ opened_tables b w z → ends ≡ terminals_of b w → bits ≡ b.degree_bits → IsGroundOf b w z → HaveFractionsFor b w
      → IsBuilt b.setting b.prover b.statement b.traces b.degree_bits (put_together main permutation quotient opened opening ends bits w z)
  unfolding honest_proof
  built_of main permutation quotient opened opening ends bits w z B m p q o t d ground fractions = record {
    heights = traced_heights b.setting b.prover b.statement b.traces b.degree_bits B;
    lookup_ground = ground.0;
    has_fractions = fractions;
    ood_ground = ground.1;
    proof_is = λ i. record {
      commitments = record { main = m i; permutation = p i; quotient_chunks = q i; random = None };
      instances = o i;
      opening_proof = opening;
      lookup_terminals = t i;
      degree_bits = d i;
      lookup_pow_witness = w;
      ood_pow_witness = z;
    };
  }

module _ {S F E C D P R : Type 0} (k : ProverBackend S F E C D P R) (b : Batch S F E C) (main : C) (permutation : Option C) (quotient : C) (opened : List (OpenedWithLookups E)) (opening : P) (ends : List (Option E)) (bits : List ℕ) (w : Option F) (z : F)
    (built : IsBuilt b.setting b.prover b.statement b.traces b.degree_bits (put_together b main permutation quotient opened opening ends bits w z)) where
  -- so is one that equals it, with what proves its openings
  pub proved_of : (q : ProofData F E C P) → q ≡ put_together b main permutation quotient opened opening ends bits w z
      → (requests : List (Request D E)) → AreAsked k b w z requests → k.proves (state_of_opening b w z) requests opening → IsHonestProof k b q
  proved_of q e requests asked proves = subst (IsHonestProof k b) (sym e) (record { built = built; requests = requests; asked = asked; proves = proves })

  -- and where the backend takes these, it is honest
  pub honest_of : {X : Type 0} (backend : Backend S F E C P X) (q : ProofData F E C P) → q ≡ put_together b main permutation quotient opened opening ends bits w z
      → (AvoidsExcluded k b w z → backend.opens (state_of_opening b w z) (honest_claims b.setting b.prover b.statement b.traces b.degree_bits w z opening) opening)
      → AvoidsExcluded k b q.lookup_pow_witness q.ood_pow_witness → IsHonest b.setting b.prover b.statement b.traces b.degree_bits backend q
  honest_of backend q e taken =
      subst (λ r. AvoidsExcluded k b r.lookup_pow_witness r.ood_pow_witness → IsHonest b.setting b.prover b.statement b.traces b.degree_bits backend r) (sym e) (λ avoids. record { built = built; opened = taken avoids })
