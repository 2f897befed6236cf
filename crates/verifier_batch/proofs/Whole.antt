-- From the call that makes a proof's claims, and the backend's check, to the checks of what is opened.
use Rattle.std.proofs.Common.{◌≡◌, ℕ, ◌<◌, List, Option, Result, Ok, Err, IfOk, length, map, get_or, sym, ◌∙◌, ap, subst}
use Rattle.std.proofs.lemmas.List.{length-map}
use Rattle.std.proofs.lemmas.Simd.{map-map}
use Rattle.air_core.specs.Shape.{Declaration, width_of}
use Rattle.air_core.specs.Tree.{Tree}
use Rattle.commit_core.specs.Claims.{CommitmentClaim}
use Rattle.p3_field.specs.Checks.{Check, NoneFails}
use Rattle.p3_field.specs.Domain.{CosetData}
use Rattle.p3_field.specs.Laws.Tabulate.{get_or-tabulate, tabulate_same}
use Rattle.p3_field.specs.Poly.{tabulate}
use Rattle.p3_field.specs.Ring.{Ring}
use Rattle.batch_config.specs.Domains.{chunks_over, next_by}
use Rattle.batch_config.specs.Setting.{Setting, Backend}
use Rattle.batch_statement.specs.Proof.{OpenedWithLookups, ProofData}
use Rattle.batch_statement.specs.Statement.{PreprocessedTracesData, Statement, AirTable, WellFormed, WrittenCommon, read_common, tables_of, statement_with}
use Rattle.batch_statement.specs.declared.commitments.BatchCommitments.{BatchCommitments}
use Rattle.batch_statement.specs.declared.error.BatchVerificationError.{BatchVerificationError}
use Rattle.batch_statement.specs.declared.error.BatchVerificationError.TheVariants.{Verification, Lookup, Transcript, OutOfMemory}
use Rattle.verifier_shape.specs.Laws.Verdicts.{refused_before, verdict_after}
use Rattle.verifier_shape.specs.ShapeChecks.{shape_checks}
use Rattle.batch_statement.specs.Verdict.{IsRefusal, IsVerdict}
use Rattle.verifier_claims.specs.ClaimChecks.{made_checks}
use Rattle.verifier_claims.specs.Claims.{Claimed, chunk_domains_at, claimed_of, claims, claims_by, commitment_in, matrix_tables, place_of_preprocessed}
use Rattle.batch_statement.specs.Words.{bits_at}
use Rattle.verifier_batch.specs.OpeningChecks.{shape_bounds_of, claim_checks, claimed, log_chunks_of_table, opening_checks, opens_check, preprocessed_widths}
use Rattle.verifier_batch.proofs.Thin.{Thins}
use Rattle.verifier_batch.proofs.Thinned.{claims_thin, declared}

thins_verdict : {T R : Type 0} (xs ys : List (Check (BatchVerificationError R))) (r : Result T (BatchVerificationError R)) → Thins xs ys → IsVerdict xs r → IsVerdict ys r
thins_verdict xs ys (Ok t) h v = h.kept v
thins_verdict xs ys (Err (Verification e)) h v = h.first (Verification e) v
thins_verdict xs ys (Err (Lookup e)) h v = h.first (Lookup e) v
thins_verdict xs ys (Err (Transcript e)) h v = h.first (Transcript e) v
thins_verdict xs ys (Err OutOfMemory) h v = tt

-- what the AIRs declare is what the tables declare
declared_same : {A F : Type 0} (declaration : A → Declaration F) (trees : A → List (Tree F)) (airs : List A) → map declaration airs ≡ declared (tables_of declaration trees airs)
declared_same declaration trees airs = sym (map-map (λ t. t.declaration) (λ a. record { declaration = declaration a; trees = trees a }) airs)

widths_same : {A F : Type 0} (declaration : A → Declaration F) (trees : A → List (Tree F)) (airs : List A) (widths : List ℕ)
    → widths ≡ map (λ a. width_of (declaration a).preprocessed) airs → widths ≡ preprocessed_widths (declared (tables_of declaration trees airs))
widths_same declaration trees airs widths e =
    e ∙ sym (map-map (λ d. width_of d.preprocessed) declaration airs) ∙ ap preprocessed_widths (declared_same declaration trees airs)

-- what claims are made of, for AIRs, where these are the logarithms of the numbers of chunks
module _ {A F E C P : Type 0} (declaration : A → Declaration F) (trees : A → List (Tree F)) (airs : List A) (common : WrittenCommon F C) (p : ProofData F E C P) (counts : ℕ → ℕ) where
  abbrev pub claimed_by : Claimed F E C
  claimed_by = record {
    declarations = declared (tables_of declaration trees airs);
    preprocessed = common.preprocessed;
    commitments = p.commitments;
    instances = p.instances;
    degree_bits = p.degree_bits;
    log_chunks = tabulate (length (tables_of declaration trees airs)) counts;
  }

  pub claimed_same : (k : BatchCommitments C) (os : List (OpenedWithLookups E)) (bits chunks : List ℕ) → k ≡ p.commitments → os ≡ p.instances → bits ≡ p.degree_bits
      → chunks ≡ tabulate (length airs) counts → claimed_of declaration airs common.preprocessed k os bits chunks ≡ claimed_by
  claimed_same k os bits chunks a b e f =
      let n : length airs ≡ length (tables_of declaration trees airs) = sym (length-map {B = AirTable F} airs (λ x. record { declaration = declaration x; trees = trees x })) in
      let d : map declaration airs ≡ declared (tables_of declaration trees airs) = declared_same declaration trees airs in
      let g : chunks ≡ tabulate (length (tables_of declaration trees airs)) counts = f ∙ ap (λ m. tabulate m counts) n in
      λ i. record {
        declarations = d i;
        preprocessed = common.preprocessed;
        commitments = a i;
        instances = b i;
        degree_bits = e i;
        log_chunks = g i;
      }

-- the claims, by the parts of a configuration that they depend on
abbrev pub claims_over : {F E C : Type 0} → Ring F → Ring E → (F → E) → (ℕ → F) → F → (masks : ℕ) → (zeta : E) → Claimed F E C → List (CommitmentClaim E C (CosetData F))
claims_over r t embed root generator masks zeta q =
    claims_by r zeta (next_by t embed root masks zeta) masks (tabulate (length q.declarations) (chunk_domains_at r root generator masks q.degree_bits q.log_chunks)) q.declarations q.commitments
    (commitment_in q.preprocessed) (matrix_tables q.preprocessed) q.degree_bits q.instances

-- the call's claims, and its domains
module _ {F : Type 0} (r : Ring F) (root : ℕ → F) (generator : F) (masks : ℕ) where
  pub claims_moved : {T X E C : Type 0} (t : Ring E) (embed : F → E) (zeta : E) (answer : Result T X) (made : T → List (CommitmentClaim E C (CosetData F))) (q u : Claimed F E C) → q ≡ u
      → IfOk answer (λ w. made w ≡ claims_over r t embed root generator masks zeta q) → IfOk answer (λ w. made w ≡ claims_over r t embed root generator masks zeta u)
  claims_moved t embed zeta answer made q u e h = subst (λ x. IfOk answer (λ w. made w ≡ claims_over r t embed root generator masks zeta x)) e h

  pub domains_moved : {T X : Type 0} (n : ℕ) (counts : ℕ → ℕ) (answer : Result T X) (made : T → List (List (CosetData F))) (bits own chunks : List ℕ) → bits ≡ own → chunks ≡ tabulate n counts
      → IfOk answer (λ w. made w ≡ tabulate n (λ i. chunks_over r root generator masks (bits_at bits i) (get_or chunks i 0)))
      → IfOk answer (λ w. made w ≡ tabulate n (λ i. chunks_over r root generator masks (bits_at own i) (counts i)))
  domains_moved n counts answer made bits own chunks e f h =
      let here : (i : ℕ) → i < n → get_or chunks i 0 ≡ counts i = λ i l. ap (λ x. get_or x i 0) f ∙ get_or-tabulate n counts i 0 l in
      subst (λ x. IfOk answer (λ w. made w ≡ x))
      (tabulate_same n (λ i. chunks_over r root generator masks (bits_at bits i) (get_or chunks i 0)) (λ i. chunks_over r root generator masks (bits_at own i) (counts i))
      (λ i l. λ j. chunks_over r root generator masks (bits_at (e j) i) (here i l j))) h

pub place_moved : {T X C : Type 0} (answer : Result T X) (made : T → Option ℕ) (given own : BatchCommitments C) (preprocessed : Option (PreprocessedTracesData C)) → given ≡ own
    → IfOk answer (λ w. made w ≡ place_of_preprocessed given preprocessed) → IfOk answer (λ w. made w ≡ place_of_preprocessed own preprocessed)
place_moved answer made given own preprocessed e h = subst (λ x. IfOk answer (λ w. made w ≡ place_of_preprocessed x preprocessed)) e h

module _ {A S F E C P : Type 0} (c : Setting S F E C) (declaration : A → Declaration F) (trees : A → List (Tree F)) (airs : List A) (publics : List (List F)) (common : WrittenCommon F C)
    (p : ProofData F E C P) where
  abbrev about : Statement F C
  about = statement_with (tables_of declaration trees airs) publics common

  pub claims_verdict : {T : Type 0} (R : Type 0) (k : BatchCommitments C) (os : List (OpenedWithLookups E)) (bits chunks widths : List ℕ) (r : Result T (BatchVerificationError R))
      → WellFormed (map declaration airs) (read_common common) → NoneFails (shape_checks {R = R} c.field.ring (shape_bounds_of c) about p)
      → k ≡ p.commitments → os ≡ p.instances → bits ≡ p.degree_bits → chunks ≡ tabulate (length airs) (log_chunks_of_table c about p)
      → widths ≡ map (λ a. width_of (declaration a).preprocessed) airs
      → IsVerdict (made_checks {R = R} c (claimed_of declaration airs common.preprocessed k os bits chunks) widths) r → IsVerdict (claim_checks c about p {R = R}) r
  claims_verdict R k os bits chunks widths r w h a b d e f v =
      let wide = preprocessed_widths (declared (tables_of declaration trees airs)) in
      let q = claimed_of declaration airs common.preprocessed k os bits chunks in
      let same : q ≡ claimed c about p = claimed_same declaration trees airs common p (log_chunks_of_table c about p) k os bits chunks a b d e in
      let formed : WellFormed (declared (tables_of declaration trees airs)) (read_common common) = subst (λ ds. WellFormed ds (read_common common)) (declared_same declaration trees airs) w in
      thins_verdict (made_checks {R = R} c (claimed c about p) wide) (claim_checks c about p {R = R}) r (claims_thin R c about p h formed)
      (subst (λ x. IsVerdict (made_checks {R = R} c x wide) r) same (subst (λ x. IsVerdict (made_checks {R = R} c q x) r) (widths_same declaration trees airs widths f) v))

module _ {S F E C P R : Type 0} (c : Setting S F E C) (b : Backend S F E C P R) (s : Statement F C) (p : ProofData F E C P) (zeta : E) (state : S) where
  pub opening_first : (e : BatchVerificationError R) → IsRefusal (claim_checks c s p {R = R}) e → IsRefusal (opening_checks c b s p zeta state) e
  unfolding opening_checks
  opening_first e v = refused_before (claim_checks c s p {R = R}) (opens_check b state (claims c (claimed c s p) zeta) p.opening_proof) e v

  pub opening_last : {T : Type 0} (made : List (CommitmentClaim E C (CosetData F))) (proof : P) (r : Result T (BatchVerificationError R)) → NoneFails (claim_checks c s p {R = R})
      → made ≡ claims c (claimed c s p) zeta → proof ≡ p.opening_proof → IsVerdict (opens_check b state made proof) r → IsVerdict (opening_checks c b s p zeta state) r
  unfolding opening_checks
  opening_last made proof r h e f v =
      verdict_after (claim_checks c s p {R = R}) (opens_check b state (claims c (claimed c s p) zeta) p.opening_proof) r h
      (subst (λ x. IsVerdict (opens_check b state (claims c (claimed c s p) zeta) x) r) f (subst (λ x. IsVerdict (opens_check b state x proof) r) e v))
