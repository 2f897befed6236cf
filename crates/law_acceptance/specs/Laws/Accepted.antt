-- An honest proof of a valid statement is accepted, unless its point of the openings lies on the rows of a table.
use Rattle.std.proofs.Common.{◌≡◌, ℕ, ◌+◌, ◌<◌, Bool, true, false, List, [], ◌++◌, length, get_or, map, Option, None, sym, ◌∙◌, subst, arith}
use Rattle.std.proofs.lemmas.List.{length-map}
use Rattle.p3_field.specs.Checks.{Check, NoneFails, in_turn}
use Rattle.p3_field.specs.Domain.{CosetData}
use Rattle.p3_field.specs.Laws.Checks.{none_append, none_of_each}
use Rattle.p3_field.specs.Laws.Tabulate.{get_or-tabulate}
use Rattle.p3_field.specs.Poly.{tabulate}
use Rattle.p3_matrix.specs.Matrix.{Rows}
use Rattle.verifier_claims.specs.Claims.{matrix_tables}
use Rattle.batch_statement.specs.Words.{bits_at, no_opened}
use Rattle.verifier_claims.specs.Laws.Listed.{listed_below}
use Rattle.verifier_identity.specs.TableIdentity.{identity_of_table, terminal_check}
use Rattle.verifier_batch.specs.OpeningChecks.{shape_bounds_of, claim_checks, domain_checks, log_chunks_of_table, metadata_check, opening_checks, opens_check}
use Rattle.batch_config.specs.Domains.{chunk_domains}
use Rattle.batch_config.specs.Setting.{Backend, Setting}
use Rattle.verifier_shape.specs.ShapeChecks.{shape_checks}
use Rattle.batch_statement.specs.Proof.{OpenedWithLookups, ProofData}
use Rattle.batch_statement.specs.Statement.{Statement, AirTable}
use Rattle.batch_statement.specs.declared.error.BatchVerificationError.{BatchVerificationError}
use Rattle.verifier_batch.specs.BatchChecks.{Accepted, all_lookup_challenges, checks, domains_of, draw_part, drawn_of, identities_at, identity_part, table_challenges_of}
use Rattle.law_committed.specs.Fields.{FieldsLaws}
use Rattle.law_valid.specs.Traced.{TracedTable, log_parts, log_rows, traced_at}
use Rattle.law_valid.specs.Valid.{Valid}
use Rattle.law_valid.specs.Laws.Holding.{lookups_declared}
use Rattle.law_honest.specs.HonestProof.{AreCanonical, HaveFractions, IsHonest, IsLookupGround, IsOodGround, Prover, honest_claims, alpha, challenges_at, honest_proof, opened_of, opening_state, honest_terminal, zeta}
use Rattle.law_honest.specs.Laws.Draws.{reads_stages, same_challenges}
use Rattle.law_honest.specs.Laws.Generated.{valid_identity}
use Rattle.law_honest.specs.Laws.Ground.{ground_accepted}
use Rattle.law_honest.specs.Laws.Terminals.{honest_vanish}
use Rattle.law_acceptance.specs.Honest.{AreRegular, IsOutsideRows}
use Rattle.law_acceptance.specs.Laws.Identity.{identity_pass}
use Rattle.law_acceptance.specs.Laws.Shape.{shape_pass}

module _ {S F E C P : Type 0} (c : Setting S F E C) (p : Prover F E C) (eq : F → F → Bool) (s : Statement F C) (traces : List (Rows F)) (degree_bits : List ℕ)
    (L : FieldsLaws c.field c.extension c.two_adicity p.inverse) (V : Valid c eq p.commitment_of s traces degree_bits) (H : AreRegular c s traces degree_bits)
    (plain : c.zk ≡ false) (below : c.two_adicity < 64) (w : Option F) (z : F) (opening : P) (R : Type 0) where
  abbrev n : ℕ
  n = length s.tables

  abbrev at : ℕ → TracedTable F
  at i = traced_at s traces degree_bits i

  abbrev proof : ProofData F E C P
  proof = honest_proof c p s traces degree_bits w z opening

  abbrev a : E
  a = alpha c p s traces degree_bits w

  abbrev x : E
  x = zeta c p s traces degree_bits w z

  -- there is a domain for each quotient, and each preprocessed matrix was committed for its table's height
  claims_pass : NoneFails (claim_checks c s proof {R = R})
  unfolding claim_checks honest_proof NoneFails
  claims_pass =
      none_append (in_turn n (domain_checks c s proof {R = R})) (in_turn (length (matrix_tables s.common.preprocessed)) (metadata_check c s proof {R = R}))
      (none_of_each (domain_checks c s proof {R = R}) n (λ i h.
      let Q = V.batch.domains i h in let T = V.batch.traced i h in
      let fits = Q.fits in let least = T.least in
      let size : bits_at degree_bits i + log_chunks_of_table c s proof i ≡ log_rows c (at i) + log_parts c (at i) = omega (arith, least) in
      (omega (arith, fits, below, size), (omega (arith, fits, size), tt))))
      (none_of_each (metadata_check c s proof {R = R}) (length (matrix_tables s.common.preprocessed)) (λ m h.
      let i = get_or (matrix_tables s.common.preprocessed) m 0 in
      let within : i < n =
      listed_below (map (λ (t : AirTable F). t.declaration) s.tables) s.common n V.batch.formed (length-map s.tables (λ (t : AirTable F). t.declaration)) m 0 h in
      (V.batch.entries i within, tt)))

  -- the identity of each table at the point holds
  module _ (fractions : HaveFractions c p s traces degree_bits w) (outside : (i : ℕ) → i < n → IsOutsideRows c (at i) x) where
    at_table : (i : ℕ) → List E → Option E → List (CosetData F) → (alpha zeta : E) → OpenedWithLookups E → List (Check (BatchVerificationError R))
    at_table i challenges terminal domains alpha zeta o =
        identity_of_table {R = R} c.field c.extension i (log_rows c (at i)) (at i).table (at i).lookups (at i).publics challenges terminal domains alpha zeta o

    identities_pass : NoneFails (identity_part c s proof {R = R})
    unfolding at_table honest_proof
    identities_pass =
        none_of_each (identities_at c s proof {R = R} (all_lookup_challenges c s proof) (domains_of c s proof) (drawn_of c s proof).alpha (drawn_of c s proof).zeta) n (λ i h.
        let D = reads_stages c p s traces degree_bits w z opening in
        let ends = λ (j : ℕ). honest_terminal c p (at j) (challenges_at c p s traces degree_bits w j) in
        let opened = λ (j : ℕ). opened_of c p (at j) (challenges_at c p s traces degree_bits w j) a x in
        let parts = λ (j : ℕ). chunk_domains c (bits_at degree_bits j) (log_chunks_of_table c s proof j) in
        let same_ch : get_or (all_lookup_challenges c s proof) i [] ≡ challenges_at c p s traces degree_bits w i =
        get_or-tabulate n (table_challenges_of c s proof) i [] h ∙ same_challenges c p s traces degree_bits w z opening i in
        let same_end : get_or (tabulate n ends) i None ≡ ends i = get_or-tabulate n ends i None h in
        let same_parts : get_or (tabulate n parts) i [] ≡ parts i = get_or-tabulate n parts i [] h in
        let same_opened : get_or (tabulate n opened) i no_opened ≡ opened i = get_or-tabulate n opened i no_opened h in
        subst NoneFails (sym (λ j. at_table i (same_ch j) (same_end j) (same_parts j) (D.alpha_is j) (D.zeta_is j) (same_opened j)))
        (identity_pass c p (at i) (challenges_at c p s traces degree_bits w i) L (V.batch.domains i h) (V.batch.traced i h) a x (H i h).reads
        (lookups_declared c p.commitment_of s traces degree_bits p.inverse L V.batch i h)
        (valid_identity c p eq s traces degree_bits L V w fractions i h (H i h).reads a x (H i h).small) (outside i h) R i))

    -- the backend opens the claims
    opening_pass : (b : Backend S F E C P R) → b.opens (opening_state c p s traces degree_bits w z) (honest_claims c p s traces degree_bits w z opening) opening
        → NoneFails (opening_checks c b s proof (drawn_of c s proof).zeta (drawn_of c s proof).opening)
    unfolding opening_checks honest_proof NoneFails
    opening_pass b opened =
        let D = reads_stages c p s traces degree_bits w z opening in
        let state = opening_state c p s traces degree_bits w z in
        subst NoneFails (sym (λ j. opening_checks c b s proof (D.zeta_is j) (D.opening_is j)))
        (none_append (claim_checks c s proof {R = R}) (opens_check b state (honest_claims c p s traces degree_bits w z opening) opening) claims_pass (opened, tt))

    terminals_pass : (eq_same : (x y : F) → eq x y ≡ true → x ≡ y) (same_eq : (x : F) → eq x x ≡ true) → NoneFails (terminal_check {R = R} c.extension.ring proof.lookup_terminals)
    unfolding honest_proof NoneFails
    terminals_pass eq_same same_eq = (honest_vanish c p eq p.commitment_of s traces degree_bits L eq_same same_eq V w, tt)

    -- so the proof is accepted
    pub parts_accepted : (b : Backend S F E C P R) (K : AreCanonical c.field.ring c.order p.canonical) (eq_same : (x y : F) → eq x y ≡ true → x ≡ y) (same_eq : (x : F) → eq x x ≡ true)
        → IsLookupGround c p s traces degree_bits w → IsOodGround c p s traces degree_bits w z
        → b.opens (opening_state c p s traces degree_bits w z) (honest_claims c p s traces degree_bits w z opening) opening → Accepted c b s proof
    unfolding checks
    parts_accepted b K eq_same same_eq lookup ood opened =
        let k1 = shape_checks {R = R} c.field.ring (shape_bounds_of c) s proof in
        let k2 = draw_part c s proof {R = R} in
        let k3 = opening_checks c b s proof (drawn_of c s proof).zeta (drawn_of c s proof).opening in
        let k4 = identity_part c s proof {R = R} in
        let k5 = terminal_check {R = R} c.extension.ring proof.lookup_terminals in
        none_append (k1 ++ k2 ++ k3 ++ k4) k5
        (none_append (k1 ++ k2 ++ k3) k4
        (none_append (k1 ++ k2) k3
        (none_append k1 k2 (shape_pass c p eq s traces degree_bits L V w z opening plain below (λ i h. (H i h).has_columns) R) (ground_accepted c p s traces degree_bits K R w z opening lookup ood))
        (opening_pass b opened)) identities_pass) (terminals_pass eq_same same_eq)

-- An honest proof is accepted.
pub honest_accepted : {S F E C P R : Type 0} (c : Setting S F E C) (p : Prover F E C) (eq : F → F → Bool) (s : Statement F C) (traces : List (Rows F)) (degree_bits : List ℕ)
    (L : FieldsLaws c.field c.extension c.two_adicity p.inverse) (eq_same : (x y : F) → eq x y ≡ true → x ≡ y) (same_eq : (x : F) → eq x x ≡ true) (K : AreCanonical c.field.ring c.order p.canonical)
    (V : Valid c eq p.commitment_of s traces degree_bits) (H : AreRegular c s traces degree_bits) (plain : c.zk ≡ false) (below : c.two_adicity < 64)
    (b : Backend S F E C P R) (q : ProofData F E C P) → IsHonest c p s traces degree_bits b q
    → ((i : ℕ) → i < length s.tables → IsOutsideRows c (traced_at s traces degree_bits i) (zeta c p s traces degree_bits q.lookup_pow_witness q.ood_pow_witness))
    → Accepted c b s q
honest_accepted {R = R} c p eq s traces degree_bits L eq_same same_eq K V H plain below b q G outside =
    let B = G.built in
    subst (Accepted c b s) (sym B.proof_is)
    (parts_accepted c p eq s traces degree_bits L V H plain below q.lookup_pow_witness q.ood_pow_witness q.opening_proof R B.has_fractions outside b K eq_same same_eq B.lookup_ground B.ood_ground G.opened)
