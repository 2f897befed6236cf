-- What is named of a batch proof, by a configuration's parts.
use Rattle.std.proofs.Common.{◌≡◌, ℕ, zero, suc, ◌+◌, ◌<◌, ◌≤◌, List, [], ◌∷◌, ◌++◌, Bool, false, true, cond, IfOk, ◌==◌, length, get_or, Option, Result, Ok, Err, ◌∙◌, ap, sym, subst, inl, inr, refl}
use Rattle.std.specs.Prelude.{count_by, is_some}
use Rattle.std.proofs.lemmas.Bool.{eqb-true, eq-eqb}
use Rattle.std.proofs.lemmas.List.{length-map}
use Rattle.p3_field.specs.Checks.{Check, NoneFails, in_turn}
use Rattle.p3_field.specs.Domain.{CosetData}
use Rattle.p3_field.specs.Laws.Checks.{none_at, none_before, none_first}
use Rattle.p3_field.specs.Laws.Tabulate.{get_or-tabulate, length-tabulate, tabulate_items}
use Rattle.p3_field.specs.Poly.{tabulate}
use Rattle.p3_field.specs.Ring.{Ring}
use Rattle.p3_challenger.specs.Script.{ChallengerOf}
use Rattle.p3_lookup.specs.Bus.{bus_count, batch_buses, widest}
use Rattle.p3_lookup.specs.Challenge.{challenges_with}
use Rattle.p3_lookup.specs.Lookup.{LookupData}
use Rattle.commit_core.specs.Claims.{CommitmentClaim}
use Rattle.transcript_version.specs.declared.TranscriptVersion.{TranscriptVersion}
use Rattle.batch_transcript.specs.BatchScript.{BatchShapeData, Draws, draws}
use Rattle.batch_transcript.specs.Buses.{batch_layout, instance_challenges}
use Rattle.batch_transcript.specs.declared.failure.BatchTranscriptFailure.TheVariants.{MissingLookupPowWitness}
use Rattle.batch_config.specs.Domains.{chunk_domains}
use Rattle.batch_config.specs.Setting.{Setting, Backend, masks}
use Rattle.batch_statement.specs.Proof.{ProofData}
use Rattle.batch_statement.specs.Statement.{Statement}
use Rattle.batch_statement.specs.Verdict.{IsDecided, IsRefusal, IsVerdict}
use Rattle.batch_statement.specs.Words.{bits_at, has_some}
use Rattle.batch_statement.specs.declared.error.BatchVerificationError.{BatchVerificationError}
use Rattle.batch_statement.specs.declared.error.BatchVerificationError.TheVariants.{OutOfMemory, Transcript}
use Rattle.verifier_shape.specs.ShapeChecks.{Bounds, HaveItemForEachTable, log_chunks_at, shape_checks}
use Rattle.verifier_draws.specs.Draws.{drawn, drawn_pair, given_of, ood_grinding, script_shape}
use Rattle.verifier_claims.specs.Claims.{claims, matrix_tables}
use Rattle.verifier_identity.specs.TableIdentity.{identity_at, terminal_check}
use Rattle.verifier_batch.specs.OpeningChecks.{claim_checks, claimed, domain_checks, log_chunks_of_table, metadata_check, opens_check, shape_bounds_of}
use Rattle.verifier_batch.specs.BatchChecks.{drawn_of, table_challenges_of}
use Rattle.audit_batch.specs.Asked.{AreNamed, always, in_order, of_each}
use Rattle.audit_batch.specs.Audit.{HasWitness, audit, lookup_asked, parts_of, tables_with_lookups}
use Rattle.audit_batch.specs.Named.{AreNamedAfter, HasMemory, errors_of}
use Rattle.audit_batch.specs.Opened.{AreClaimsNamed, AreOpened, identities_of_all}
use Rattle.audit_batch.specs.Parts.{all_asked, claims_list, shape_asked, shape_list}
use Rattle.audit_batch.specs.Report.{IsPlayedText, steps_text}
use Rattle.audit_batch.specs.Shape.{shape_parts}
use Rattle.audit_batch.specs.Laws.Grinding.{missing_named}
use Rattle.audit_batch.specs.Laws.Naming.{after_one, decided_by_verdict}
use Rattle.audit_batch.specs.Laws.Shape.{none_named_if_right, right_if_none_named, same_shape}
use Rattle.audit_batch.specs.Laws.Whole.{from_nothing, script_played, shape_fails, witness_missing}

-- a refusal that isn't of memory says that a check fails
pub fails_if_refused : {R : Type 0} (cs : List (Check (BatchVerificationError R))) (e : BatchVerificationError R) → IsRefusal cs e → (e ≡ OutOfMemory → ⊥) → NoneFails cs → ⊥
fails_if_refused cs e v n h = none_first cs e h (decided_by_verdict {T = ℕ} cs (Err e) v n)

-- lists that a table of lists has
pub item_lengths : {E : Type 0} (n : ℕ) (cs : List (List E)) (f : ℕ → List E) (m : ℕ → ℕ) → cs ≡ tabulate n f → ((i : ℕ) → i < n → length (f i) ≡ m i)
    → (i : ℕ) → i < n → length (get_or cs i []) ≡ m i
item_lengths n cs f m e h i l = ap length (ap (λ xs. get_or xs i []) e ∙ get_or-tabulate n f i [] l) ∙ h i l

-- the lookups' challenges, table by table
length_laid_out : {F E : Type 0} (e : Ring E) (pair : List E) (tables : List (List (LookupData F))) → length (batch_layout e pair tables) ≡ length tables
length_laid_out {E = E} e [] tables = length-map {B = List E} tables (λ _. [])
length_laid_out {E = E} e (x ∷ []) tables = length-map {B = List E} tables (λ _. [])
length_laid_out e (alpha ∷ beta ∷ rest) tables =
    length-tabulate (length tables) (instance_challenges e (challenges_with e alpha beta (widest tables) (bus_count (batch_buses tables))) tables)

-- the pair that is drawn for the lookups
pub pair_none : {S E : Type 0} (n : ℕ) (d : Draws S E) → n ≡ 0 → drawn_pair n d ≡ []
pair_none zero d h = refl
pair_none (suc n) d h = absurd cc

pub pair_some : {S E : Type 0} (n : ℕ) (d : Draws S E) → (n ≡ 0 → ⊥) → drawn_pair n d ≡ d.lookup_alpha ∷ d.lookup_beta ∷ []
pair_some zero d h = absurd (h refl)
pair_some (suc n) d h = refl

-- each list of statement and proof has an item for each table
pub counts_here : {F E C P : Type 0} (R : Type 0) (f : Ring F) (b : Bounds) (s : Statement F C) (p : ProofData F E C P) → NoneFails (shape_checks {R = R} f b s p) → HaveItemForEachTable s p
unfolding shape_checks NoneFails
counts_here R f b s p h = h.0

-- what is drawn along the script
pub told_here : {S F E C P : Type 0} (functions : ChallengerOf S F E C) (f : Ring F) (e : Ring E) (dimension : ℕ) (initial : S) (version : TranscriptVersion) (zk : Bool) (lookup_bits ood_bits : ℕ)
    (s : Statement F C) (p : ProofData F E C P) (state : S) (shape : BatchShapeData) (d : Draws S E) → state ≡ initial → shape ≡ script_shape version zk lookup_bits ood_bits s
    → d ≡ draws functions f e dimension state shape (given_of s p) → d ≡ drawn functions f e dimension initial version zk lookup_bits ood_bits s p
unfolding drawn
told_here functions f e dimension initial version zk lookup_bits ood_bits s p state shape d es eh h = h ∙ (λ j. draws functions f e dimension (es j) (eh j) (given_of s p))

-- whether a list is empty
pub none_if_empty : {A : Type 0} (xs : List A) (n : ℕ) (b : Bool) → n ≡ length xs → b ≡ (n == 0) → b ≡ true → xs ≡ []
none_if_empty [] n b k e t = refl
none_if_empty (x ∷ xs) n b k e t = let z : n ≡ 0 = eqb-true n 0 (sym e ∙ t) in absurd cc

pub some_if_not_empty : {A : Type 0} (xs : List A) (n : ℕ) (b : Bool) → n ≡ length xs → b ≡ (n == 0) → b ≡ false → xs ≡ [] → ⊥
some_if_not_empty xs n b k e f h = let t : true ≡ false = sym (e ∙ eq-eqb n 0 (k ∙ ap length h)) ∙ f in absurd cc

-- whether the value that the script needs is there
pub there_if_unasked : {F : Type 0} (n : ℕ) (w : Option F) → n ≡ 0 → HasWitness n w
there_if_unasked zero w e = tt
there_if_unasked (suc n) w e = absurd cc

pub there_if_some : {F : Type 0} (n : ℕ) (w : Option F) → is_some w ≡ true → HasWitness n w
there_if_some zero w e = tt
there_if_some (suc n) w e = e

pub missing_if_none : {F : Type 0} (n : ℕ) (w : Option F) → (n ≡ 0 → ⊥) → is_some w ≡ false → HasWitness n w → ⊥
missing_if_none zero w n e h = n refl
missing_if_none (suc k) w n e h = let same = sym h ∙ e in absurd cc

module _ {F E C P : Type 0} (R : Type 0) (f : Ring F) (bounds own : Bounds) (s : Statement F C) (p : ProofData F E C P) (same : bounds ≡ own) where
  -- where nothing is named of the shape it is right,
  pub right_here : (start x : List (BatchVerificationError R)) → start ≡ [] → x ≡ [] → AreNamedAfter start (shape_asked (shape_parts f bounds s p)) x → NoneFails (shape_checks {R = R} f own s p)
  right_here start x es ex h =
      let qs = shape_asked (shape_parts {R = R} f bounds s p) in
      let named = from_nothing qs x (subst (λ a. AreNamedAfter a qs x) es h) in
      subst (λ k. NoneFails (shape_checks {R = R} f k s p)) same (right_if_none_named R f bounds s p (subst (AreNamed qs) ex named))

  -- and these are the numbers of the quotients' chunks
  pub chunks_here : (n k m : ℕ) (chunks seen : List ℕ) → k ≡ m → seen ≡ chunks → NoneFails (shape_checks {R = R} f own s p)
      → (NoneFails (shape_checks {R = R} f bounds s p) → chunks ≡ tabulate n (log_chunks_at f k s.tables s.common.lookups p.degree_bits))
      → seen ≡ tabulate n (log_chunks_at f m s.tables s.common.lookups p.degree_bits)
  chunks_here n k m chunks seen ek e h made =
      e ∙ made (subst (λ x. NoneFails (shape_checks {R = R} f x s p)) (sym same) h) ∙ ap (λ x. tabulate n (log_chunks_at f x s.tables s.common.lookups p.degree_bits)) ek

module _ {S F E C P R : Type 0} (c : Setting S F E C) (b : Backend S F E C P R) (s : Statement F C) (p : ProofData F E C P) where
  -- the shape's checks, and those of the claims, are the verifier's
  shape_here : NoneFails (shape_checks {R = R} c.field.ring (shape_bounds_of c) s p) → NoneFails (shape_list (parts_of c b s p).shape)
  shape_here h = subst NoneFails (sym (same_shape R c.field.ring (shape_bounds_of c) s p)) h

  claims_same : claims_list (parts_of c b s p) ≡ claim_checks c s p {R = R}
  unfolding claims_list claim_checks
  claims_same = refl

  -- each quotient's domain is one of the field's
  pub domains_fit : NoneFails (claim_checks c s p {R = R}) → (i : ℕ) → i < length s.tables → bits_at p.degree_bits i + log_chunks_of_table c s p i ≤ c.two_adicity
  unfolding NoneFails claim_checks
  domains_fit h i l =
      let domains = none_before (in_turn (length s.tables) (domain_checks c s p {R = R})) (in_turn (length (matrix_tables s.common.preprocessed)) (metadata_check c s p {R = R})) h in
      let one = none_at (domain_checks c s p {R = R}) (length s.tables) i l domains in
      one.1.0

  -- the grinding value before the pair, by its own numbers and test
  pub lookup_at : (n bits : ℕ) (w : Option F) (passed : Bool) (x y : List (BatchVerificationError R)) → n ≡ tables_with_lookups c b s p → bits ≡ c.lookup_bits → w ≡ p.lookup_pow_witness
      → passed ≡ (drawn_of c s p).lookup_passed → AreNamedAfter x (lookup_asked c.field.ring.zero n bits w passed) y → AreNamedAfter x ((parts_of c b s p).lookup_grinding) y
  lookup_at n bits w passed x y en eb ew ep h = subst (λ qs. AreNamedAfter x qs y) (λ j. lookup_asked {R = R} c.field.ring.zero (en j) (eb j) (ew j) (ep j)) h

  pub missing_at : (n bits : ℕ) (x y : List (BatchVerificationError R)) → n ≡ tables_with_lookups c b s p → bits ≡ c.lookup_bits → (HasWitness n p.lookup_pow_witness → ⊥)
      → y ≡ x ++ cond false [] (Transcript (MissingLookupPowWitness bits) ∷ []) → AreNamedAfter x ((parts_of c b s p).lookup_grinding) y
  missing_at n bits x y en eb m e =
      let passed = (drawn_of c s p).lookup_passed in
      lookup_at n bits p.lookup_pow_witness passed x y en eb refl refl (missing_named c.field.ring.zero n bits p.lookup_pow_witness passed x y m e)

  -- and the one before zeta
  pub ood_at : (bits : ℕ) (w : F) (passed : Bool) (x y : List (BatchVerificationError R)) → bits ≡ c.ood_bits → w ≡ p.ood_pow_witness → passed ≡ (drawn_of c s p).ood_passed
      → AreNamedAfter x (always (ood_grinding c.field.ring.zero bits w passed)) y → AreNamedAfter x (always ((parts_of c b s p).ood_grinding)) y
  ood_at bits w passed x y eb ew ep h = subst (λ qs. AreNamedAfter x qs y) (λ j. always (ood_grinding {R = R} c.field.ring.zero (eb j) (ew j) (ep j))) h

  -- the value is there, by a number that is the same
  pub there_at : (n : ℕ) → n ≡ tables_with_lookups c b s p → HasWitness n p.lookup_pow_witness → (parts_of c b s p).has_witness
  there_at n e h = subst (λ m. HasWitness m p.lookup_pow_witness) e h

  -- the challenges of all tables' lookups
  pub challenges_here : (n k : ℕ) (d : Draws S E) (laid : List (List E)) → length s.common.lookups ≡ n → k ≡ count_by has_some s.common.lookups → d ≡ drawn_of c s p
      → laid ≡ batch_layout c.extension.ring (drawn_pair k d) s.common.lookups → laid ≡ tabulate n (table_challenges_of c s p)
  challenges_here n k d laid l ek ed h =
      let pair = drawn_pair (count_by has_some s.common.lookups) (drawn_of c s p) in
      let laid_out = batch_layout c.extension.ring pair s.common.lookups in
      h ∙ (λ j. batch_layout c.extension.ring (drawn_pair (ek j) (ed j)) s.common.lookups)
      ∙ tabulate_items [] laid_out n (length_laid_out c.extension.ring pair s.common.lookups ∙ l)

  -- the answer of the backend's check
  pub opens_named : {T : Type 0} (state : S) (zeta : E) (made : List (CommitmentClaim E C (CosetData F))) (proof : P) (r : Result T (BatchVerificationError R)) (x y : List (BatchVerificationError R))
      → state ≡ (drawn_of c s p).opening → zeta ≡ (drawn_of c s p).zeta → made ≡ claims c (claimed c s p) zeta → proof ≡ p.opening_proof
      → IsVerdict (opens_check b state made proof) r → HasMemory r → y ≡ x ++ errors_of r → AreNamedAfter x (always ((parts_of c b s p).opens)) y
  opens_named state zeta made proof r x y es ez em ep v m e =
      let whole = em ∙ ap (claims c (claimed c s p)) ez in
      let moved : IsVerdict ((parts_of c b s p).opens) r = subst (λ cs. IsVerdict cs r) (λ j. opens_check b (es j) (whole j) (ep j)) v in
      after_one _ r x y (decided_by_verdict ((parts_of c b s p).opens) r moved m) e

  -- the tables' identities
  abbrev own_domains : ℕ → List (CosetData F)
  own_domains i = chunk_domains c (bits_at p.degree_bits i) (log_chunks_of_table c s p i)

  pub identities_named : (n k : ℕ) (cs : List (List E)) (ds : List (List (CosetData F))) (alpha zeta : E) (x y : List (BatchVerificationError R))
      → n ≡ length s.tables → k ≡ masks c → cs ≡ tabulate n (table_challenges_of c s p) → ds ≡ tabulate n own_domains → alpha ≡ (drawn_of c s p).alpha → zeta ≡ (drawn_of c s p).zeta
      → AreNamedAfter x (of_each n (λ i. in_order (identity_at c.field c.extension k s p.instances p.lookup_terminals p.degree_bits cs ds alpha zeta i))) y
      → AreNamedAfter x (identities_of_all (parts_of c b s p)) y
  identities_named n k cs ds alpha zeta x y en ek ec ed ea ez h =
      let challenges = ec ∙ ap (λ m. tabulate m (table_challenges_of c s p)) en in
      let domains = ed ∙ ap (λ m. tabulate m own_domains) en in
      subst (λ qs. AreNamedAfter x qs y)
      (λ j. of_each (en j) (λ i. in_order (identity_at {R = R} c.field c.extension (ek j) s p.instances p.lookup_terminals p.degree_bits (challenges j) (domains j) (ea j) (ez j) i))) h

  -- the answer of the terminals' check
  pub terminals_named : {T : Type 0} (r : Result T (BatchVerificationError R)) (x y : List (BatchVerificationError R)) → IsDecided (terminal_check c.extension.ring p.lookup_terminals) r
      → y ≡ x ++ errors_of r → AreNamedAfter x (always ((parts_of c b s p).terminals)) y
  terminals_named r x y v e = after_one _ r x y v e

  -- of the openings
  pub claims_fail_here : (x y : List (BatchVerificationError R)) → (NoneFails (claim_checks c s p {R = R}) → ⊥) → AreClaimsNamed (parts_of c b s p) x y → AreOpened (parts_of c b s p) x y
  claims_fail_here x y n h = inl ((λ k. n (subst NoneFails claims_same k)), h)

  pub claims_hold_here : (x m y : List (BatchVerificationError R)) → NoneFails (claim_checks c s p {R = R}) → AreNamedAfter x (always ((parts_of c b s p).opens)) m
      → AreNamedAfter m (identities_of_all (parts_of c b s p)) y → AreOpened (parts_of c b s p) x y
  claims_hold_here x m y k h i = inr (subst NoneFails (sym claims_same) k, (m, h, i))

  -- of all parts: where the shape isn't right,
  pub shape_fails_here : (x y : List (BatchVerificationError R)) → AreNamedAfter [] (shape_asked (parts_of c b s p).shape) x → (x ≡ [] → ⊥) → AreNamedAfter x (always ((parts_of c b s p).terminals)) y
      → AreNamed (audit c b s p) y
  unfolding audit
  shape_fails_here x y m n t =
      let q = parts_of c b s p in
      let named : AreNamed (shape_asked q.shape) x = from_nothing (shape_asked q.shape) x m in
      let wrong : NoneFails (shape_list q.shape) → ⊥ =
      λ h. n (none_named_if_right R c.field.ring (shape_bounds_of c) s p x (subst NoneFails (same_shape R c.field.ring (shape_bounds_of c) s p) h) named) in
      from_nothing (all_asked q) y (shape_fails q [] x y wrong m t)

  -- where a value is missing,
  pub missing_here : (x y z : List (BatchVerificationError R)) → NoneFails (shape_checks {R = R} c.field.ring (shape_bounds_of c) s p) → ((parts_of c b s p).has_witness → ⊥)
      → AreNamedAfter [] ((parts_of c b s p).lookup_grinding) x → AreClaimsNamed (parts_of c b s p) x y → AreNamedAfter y (always ((parts_of c b s p).terminals)) z → AreNamed (audit c b s p) z
  unfolding audit
  missing_here x y z h n l m t = from_nothing (all_asked (parts_of c b s p)) z (witness_missing (parts_of c b s p) (shape_here h) [] x y z n l m t)

  -- and where the script is played
  pub played_here : (x y z w : List (BatchVerificationError R)) → NoneFails (shape_checks {R = R} c.field.ring (shape_bounds_of c) s p) → (parts_of c b s p).has_witness
      → AreNamedAfter [] ((parts_of c b s p).lookup_grinding) x → AreNamedAfter x (always ((parts_of c b s p).ood_grinding)) y → AreOpened (parts_of c b s p) y z
      → AreNamedAfter z (always ((parts_of c b s p).terminals)) w → AreNamed (audit c b s p) w
  unfolding audit
  played_here x y z w h there l o m t = from_nothing (all_asked (parts_of c b s p)) w (script_played (parts_of c b s p) (shape_here h) there [] x y z w l o m t)

  -- The whole, by what calls say: where a value is missing,
  pub unplayed_here : {T : Type 0} (shape : BatchShapeData) (bits : ℕ) (start x y z : List (BatchVerificationError R)) (r : Result T (BatchVerificationError R)) → start ≡ []
      → NoneFails (shape_checks {R = R} c.field.ring (shape_bounds_of c) s p) → shape ≡ script_shape c.version c.zk c.lookup_bits c.ood_bits s → bits ≡ shape.lookup_pow_bits
      → (HasWitness shape.num_lookup_instances p.lookup_pow_witness → ⊥) → x ≡ start ++ cond false [] (Transcript (MissingLookupPowWitness bits) ∷ []) → AreClaimsNamed (parts_of c b s p) x y
      → IsDecided (terminal_check c.extension.ring p.lookup_terminals) r → z ≡ y ++ errors_of r → AreNamed (audit c b s p) z
  unplayed_here shape bits start x y z r e h es eb m ex named decided ez =
      let tables = ap (λ (t : BatchShapeData). t.num_lookup_instances) es in
      let own_bits = eb ∙ ap (λ (t : BatchShapeData). t.lookup_pow_bits) es in
      let first = missing_at shape.num_lookup_instances bits start x tables own_bits m ex in
      missing_here x y z h (λ w. m (subst (λ k. HasWitness k p.lookup_pow_witness) (sym tables) w)) (subst (λ a. AreNamedAfter a ((parts_of c b s p).lookup_grinding) x) e first) named
      (terminals_named r y z decided ez)

  -- where the script is played,
  pub folded_here : {T : Type 0} (shape : BatchShapeData) (tables lookup_bits ood_bits : ℕ) (w : Option F) (v : F) (d : Draws S E) (start x y z u : List (BatchVerificationError R))
      (r : Result T (BatchVerificationError R)) → start ≡ [] → NoneFails (shape_checks {R = R} c.field.ring (shape_bounds_of c) s p)
      → shape ≡ script_shape c.version c.zk c.lookup_bits c.ood_bits s → tables ≡ shape.num_lookup_instances → lookup_bits ≡ shape.lookup_pow_bits → ood_bits ≡ shape.ood_pow_bits
      → w ≡ p.lookup_pow_witness → v ≡ p.ood_pow_witness → d ≡ drawn_of c s p → HasWitness shape.num_lookup_instances p.lookup_pow_witness
      → AreNamedAfter start (lookup_asked c.field.ring.zero tables lookup_bits w d.lookup_passed) x
      → AreNamedAfter x (always (ood_grinding c.field.ring.zero ood_bits v d.ood_passed)) y → AreOpened (parts_of c b s p) y z
      → IsDecided (terminal_check c.extension.ring p.lookup_terminals) r → u ≡ z ++ errors_of r → AreNamed (audit c b s p) u
  folded_here shape tables lookup_bits ood_bits w v d start x y z u r e h es et el eo ew ev ed there lookup ood opened decided eu =
      let own = ap (λ (t : BatchShapeData). t.num_lookup_instances) es in
      let lookup_own = el ∙ ap (λ (t : BatchShapeData). t.lookup_pow_bits) es in
      let ood_own = eo ∙ ap (λ (t : BatchShapeData). t.ood_pow_bits) es in
      let first = lookup_at tables lookup_bits w d.lookup_passed start x (et ∙ own) lookup_own ew (ap (λ (t : Draws S E). t.lookup_passed) ed) lookup in
      played_here x y z u h (there_at shape.num_lookup_instances own there) (subst (λ a. AreNamedAfter a ((parts_of c b s p).lookup_grinding) x) e first)
      (ood_at ood_bits v d.ood_passed x y ood_own ev (ap (λ (t : Draws S E). t.ood_passed) ed) ood) opened (terminals_named r z u decided eu)

  -- and where the shape isn't right
  pub named_after_bounds : (bounds : Bounds) (start x : List (BatchVerificationError R)) → bounds ≡ shape_bounds_of c → start ≡ []
      → AreNamedAfter start (shape_asked (shape_parts c.field.ring bounds s p)) x → AreNamedAfter [] (shape_asked (parts_of c b s p).shape) x
  named_after_bounds bounds start x eb es h =
      subst (λ a. AreNamedAfter a (shape_asked (parts_of c b s p).shape) x) es
      (subst (λ k. AreNamedAfter start (shape_asked (shape_parts {R = R} c.field.ring k s p)) x) eb h)

  pub wrong_here : {T : Type 0} (bounds : Bounds) (start x y : List (BatchVerificationError R)) (r : Result T (BatchVerificationError R)) → bounds ≡ shape_bounds_of c → start ≡ [] → (x ≡ [] → ⊥)
      → AreNamedAfter start (shape_asked (shape_parts c.field.ring bounds s p)) x → IsDecided (terminal_check c.extension.ring p.lookup_terminals) r → y ≡ x ++ errors_of r
      → AreNamed (audit c b s p) y
  wrong_here bounds start x y r eb es n h decided e = shape_fails_here x y (named_after_bounds bounds start x eb es h) n (terminals_named r x y decided e)

  -- the lines, where the script is played,
  module _ (coefficients : E → List ℕ) where
    pub text_played : (n : ℕ) (text : List ℕ) → NoneFails (shape_checks {R = R} c.field.ring (shape_bounds_of c) s p) → n ≡ tables_with_lookups c b s p → HasWitness n p.lookup_pow_witness
        → text ≡ steps_text c b s p coefficients → IsPlayedText c b s p coefficients text
    text_played n text h e w t = inl ((shape_here h, there_at n e w), t)

    pub texts_played : {T D : Type 0} (n : ℕ) (r : Result T D) (text : T → List ℕ) → NoneFails (shape_checks {R = R} c.field.ring (shape_bounds_of c) s p) → n ≡ tables_with_lookups c b s p
        → HasWitness n p.lookup_pow_witness → IfOk r (λ a. text a ≡ steps_text c b s p coefficients) → IfOk r (λ a. IsPlayedText c b s p coefficients (text a))
    texts_played n (Ok a) text h e w t = text_played n (text a) h e w t
    texts_played n (Err x) text h e w t = t

    -- where a value is missing,
    pub text_missing : (n : ℕ) (text : List ℕ) → n ≡ tables_with_lookups c b s p → (HasWitness n p.lookup_pow_witness → ⊥) → text ≡ [] → IsPlayedText c b s p coefficients text
    text_missing n text e m t = inr ((λ h. m (subst (λ k. HasWitness k p.lookup_pow_witness) (sym e) h.1)), t)

    -- and where the shape isn't right
    pub text_wrong : (bounds : Bounds) (start x : List (BatchVerificationError R)) (text : List ℕ) → bounds ≡ shape_bounds_of c → start ≡ [] → (x ≡ [] → ⊥)
        → AreNamedAfter start (shape_asked (shape_parts c.field.ring bounds s p)) x → text ≡ [] → IsPlayedText c b s p coefficients text
    text_wrong bounds start x text eb es n h t =
        let named = from_nothing (shape_asked (parts_of c b s p).shape) x (named_after_bounds bounds start x eb es h) in
        inr ((λ q. n (none_named_if_right R c.field.ring (shape_bounds_of c) s p x (subst NoneFails (same_shape R c.field.ring (shape_bounds_of c) s p) q.0) named)), t)
