-- An opening of one matrix at one point.
use Rattle.std.proofs.Common.{◌≡◌, List, [], ◌∷◌, refl, subst}
use Rattle.std.specs.Prelude.{ℕ, All}
use Rattle.std.proofs.lemmas.List.Elements.{All-cons, All-nil}
use Rattle.p3_field.specs.Ring.{Ring}
use Rattle.commit_core.specs.Claims.{CommitmentClaim, MatrixClaim, Request}
use Rattle.commit_core.specs.Commitments.{Committed, OpenedCommitment, AreOpenedCommitments, IsOpening, IsRoundClaim, IsMatrixClaim, values_of}
use Rattle.commit_core.specs.Laws.OneItem.{one_pair}
use Rattle.example_commit.specs.Single.{claim_of}

module _ {P E C F D : Type 0} (holds : P → C → List (Committed F) → Type 0) (s : Ring E) (embed : F → E) (points : D → ℕ) (excludes : E → Type 0) (accepts : List (CommitmentClaim E C D) → Type 0) where
  -- what an opening of any held polynomials says where one matrix is opened at one point
  pub opening_of_one : (requests : List (Request P E)) (values : List (List (List (List E)))) (d : P) (x : E) (c : C) (m : Committed F)
      → requests ≡ record { prover_data = d; points = (x ∷ []) ∷ [] } ∷ []
      → ((held : List (OpenedCommitment C F)) → AreOpenedCommitments holds requests held → IsOpening s embed points excludes accepts requests values held)
      → holds d c (m ∷ [])
      → (values ≡ ((values_of s embed m x ∷ []) ∷ []) ∷ []) × ((excludes x → ⊥) → (domain : D) → points domain ≡ m.size → accepts (claim_of c domain x (values_of s embed m x) ∷ []))
  opening_of_one requests values d x c m e opening h =
      let r : Request P E = record { prover_data = d; points = (x ∷ []) ∷ [] } in
      let held : OpenedCommitment C F = record { commitment = c; matrices = m ∷ [] } in
      let Q : List (Request P E) → Type 0 = λ q. AreOpenedCommitments holds q (held ∷ []) → IsOpening s embed points excludes accepts q values (held ∷ []) in
      let o = subst Q e (opening (held ∷ [])) (one_pair (λ (q : Request P E) (k : OpenedCommitment C F). holds q.prover_data k.commitment k.matrices) r held h) in (
        o.values_are,
        λ free domain size.
            let matrix : MatrixClaim E D = record { domain = domain; points = record { point = x; values = values_of s embed m x } ∷ [] } in
            let claim : CommitmentClaim E C D = claim_of c domain x (values_of s embed m x) in
            let of_matrix = one_pair (λ (p : Committed F × List E) (k : MatrixClaim E D). IsMatrixClaim s embed points p.0 p.1 k) (m, x ∷ []) matrix (record { size_is = size; points_are = refl }) in
            let of_round = one_pair (λ (p : OpenedCommitment C F × Request P E) (k : CommitmentClaim E C D). IsRoundClaim s embed points p.0 p.1 k) (held, r) claim (record { commitment_is = refl; matrices_are = of_matrix }) in
            o.accepted (claim ∷ []) of_round
            (All-cons (λ (q : Request P E). All (λ xs. All (λ y. excludes y → ⊥) xs) q.points) r []
            (All-cons (λ (xs : List E). All (λ y. excludes y → ⊥) xs) (x ∷ []) [] (All-cons (λ (y : E). excludes y → ⊥) x [] free (All-nil (λ (y : E). excludes y → ⊥))) (All-nil (λ (xs : List E). All (λ y. excludes y → ⊥) xs)))
            (All-nil (λ (q : Request P E). All (λ xs. All (λ y. excludes y → ⊥) xs) q.points))),
      )
