-- What a backend opens of an honest proof's commitments are its opened values, and the proof that it gives is taken.
use Rattle.std.proofs.Common.{◌≡◌, ℕ, ◌^◌, false, List, [], ◌∷◌, map, Option, refl, ◌∙◌, ap, subst}
use Rattle.std.specs.Prelude.{zip}
use Rattle.p3_field.specs.Domain.{CosetData, point}
use Rattle.p3_field.specs.Ring.{Ring}
use Rattle.p3_matrix.specs.Matrix.{Rows}
use Rattle.commit_core.specs.Claims.{CommitmentClaim, Request}
use Rattle.commit_core.specs.Commitments.{AreCommitted, AreOpenedCommitments, AvoidAll, Committed, OpenedCommitment, IsOpening, opened, values_of}
use Rattle.batch_config.specs.Setting.{Setting}
use Rattle.batch_statement.specs.Statement.{Statement}
use Rattle.law_committed.specs.Fields.{FieldsLaws}
use Rattle.law_valid.specs.Valid.{IsTracedBatch}
use Rattle.law_honest.specs.HonestProof.{Prover, honest_claims}
use Rattle.law_acceptance.specs.Rounds.{AskFor, OpenedMatrix, Round, committed_of, opened_commitments_of, honest_rounds, values_in_rounds}
use Rattle.law_acceptance.specs.Laws.Rounds.{ArePaired, honest_are_claims, paired_from}

-- the values of matrices beside their points
matrices_opened : {F E : Type 0} (r : Ring E) (embed : F → E) (os : List (OpenedMatrix F E))
    → map (λ p. map (values_of r embed p.0) p.1) (zip (committed_of os) (map (λ (o : OpenedMatrix F E). o.points) os)) ≡ map (λ (o : OpenedMatrix F E). map (values_of r embed o.committed) o.points) os
matrices_opened r embed [] = refl
matrices_opened r embed (o ∷ os) = ap (λ l. map (values_of r embed o.committed) o.points ∷ l) (matrices_opened r embed os)

rounds_opened : {F E C D : Type 0} (r : Ring E) (embed : F → E) (rounds : List (Round F E C)) (requests : List (Request D E))
    → ArePaired (λ (x : Round F E C) (q : Request D E). q.points ≡ map (λ (o : OpenedMatrix F E). o.points) x.matrices) rounds requests → opened r embed (opened_commitments_of rounds) requests ≡ values_in_rounds r embed rounds
rounds_opened r embed [] [] h = refl
rounds_opened r embed [] (q ∷ requests) h = absurd h
rounds_opened r embed (x ∷ rounds) [] h = absurd h
rounds_opened r embed (x ∷ rounds) (q ∷ requests) h =
    λ i.
    (ap (λ ps. map (λ p. map (values_of r embed p.0) p.1) (zip (committed_of x.matrices) ps)) h.0 ∙ matrices_opened r embed x.matrices) i
    ∷ rounds_opened r embed rounds requests h.1 i

module _ {S F E C D P : Type 0} (c : Setting S F E C) (p : Prover F E C) (s : Statement F C) (traces : List (Rows F)) (degree_bits : List ℕ)
    (L : FieldsLaws c.field c.extension c.two_adicity p.inverse) (B : IsTracedBatch c p.commitment_of s traces degree_bits) (plain : c.zk ≡ false) (w : Option F) (z : F) (opening : P)
    (points : CosetData F → ℕ) (sizes : (d : CosetData F) → points d ≡ 2 ^ d.log_size) (holds : D → C → List (Committed F) → Type 0) (excludes : E → Type 0)
    (accepts : List (CommitmentClaim E C (CosetData F)) → Type 0) (requests : List (Request D E)) (values : List (List (List (List E))))
    (ask : AskFor (honest_rounds c p s traces degree_bits w z) requests) (held : AreOpenedCommitments holds requests (opened_commitments_of (honest_rounds c p s traces degree_bits w z)))
    (opens : (held : List (OpenedCommitment C F)) → AreOpenedCommitments holds requests held → IsOpening c.extension.ring c.extension.embed points excludes accepts requests values held) where
  abbrev rounds : List (Round F E C)
  rounds = honest_rounds c p s traces degree_bits w z

  O : IsOpening c.extension.ring c.extension.embed (λ (d : CosetData F). 2 ^ d.log_size) excludes accepts requests values (opened_commitments_of rounds)
  O = subst (λ q. IsOpening c.extension.ring c.extension.embed q excludes accepts requests values (opened_commitments_of rounds)) (λ i d. sizes d i) (opens (opened_commitments_of rounds) held)

  pub opening_taken : AvoidAll excludes requests → accepts (honest_claims c p s traces degree_bits w z opening)
  opening_taken avoid = O.accepted (honest_claims c p s traces degree_bits w z opening) (honest_are_claims c p s traces degree_bits L B plain w z opening requests ask) avoid

  pub opening_values : values ≡ values_in_rounds c.extension.ring c.extension.embed rounds
  opening_values =
      O.values_are ∙ rounds_opened c.extension.ring c.extension.embed rounds requests (paired_from (λ (x : Round F E C) (q : Request D E). q.points ≡ map (λ (o : OpenedMatrix F E). o.points) x.matrices) rounds requests ask)

-- matrices kept on the points of a backend's domains are kept on the cosets' points
pub kept_on : {F : Type 0} (r : Ring F) (root : ℕ → F) (points : CosetData F → ℕ) (point_at : CosetData F → ℕ → F) → ((d : CosetData F) → points d ≡ 2 ^ d.log_size) → ((d : CosetData F) (i : ℕ) → point_at d i ≡ point r root d i)
    → (matrices : List (CosetData F × Rows F)) (held : List (Committed F)) → AreCommitted r points point_at matrices held → AreCommitted r (λ (d : CosetData F). 2 ^ d.log_size) (point r root) matrices held
kept_on r root points point_at sizes places matrices held K =
    subst (λ q. AreCommitted r (λ (d : CosetData _). 2 ^ d.log_size) q matrices held) (λ i d j. places d j i) (subst (λ q. AreCommitted r q point_at matrices held) (λ i d. sizes d i) K)
