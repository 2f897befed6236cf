-- No check of a batch proof is refused as out of memory.
use Rattle.std.proofs.Common.{ℕ, zero, suc, Bool, List, [], ◌∷◌, ◌++◌, length, map, get_or, Option, sym, subst, inl, inr}
use Rattle.std.specs.Prelude.{⊤}
use Rattle.p3_field.specs.Checks.{Check, check, FirstFails, in_turn}
use Rattle.p3_field.specs.Ring.{Ring}
use Rattle.air_core.specs.Shape.{Declaration, width_of}
use Rattle.p3_lookup.specs.Bus.{bus_count, batch_buses}
use Rattle.p3_uni_stark.specs.Opened.{OpenedData, PreprocessedData}
use Rattle.p3_uni_stark.specs.declared.error.VerificationError.{VerificationError}
use Rattle.verifier_claims.specs.Claims.{claims, matrix_tables}
use Rattle.verifier_draws.specs.Draws.{drawn, grinding_checks, lookup_grinding, ood_grinding, script_shape}
use Rattle.verifier_identity.specs.TableIdentity.{verified}
use Rattle.verifier_batch.specs.OpeningChecks.{shape_bounds_of, claim_checks, claimed, domain_checks, metadata_check, opening_checks, opens_check}
use Rattle.batch_config.specs.Setting.{Setting, Backend}
use Rattle.verifier_shape.specs.ShapeChecks.{Bounds, bound_at, bus_bound_part, chunk_checks, count_checks, heights_of, lookup_checks, main_checks, next_check, opened_checks, opened_part, permutation_check, preprocessed_checks, shape_checks, size_part, sizes_at, table_checks}
use Rattle.batch_statement.specs.Words.{no_opened, no_table}
use Rattle.batch_statement.specs.Proof.{OpenedWithLookups, ProofData}
use Rattle.batch_statement.specs.Statement.{Statement}
use Rattle.batch_statement.specs.declared.error.BatchVerificationError.{BatchVerificationError}
use Rattle.batch_statement.specs.declared.error.BatchVerificationError.TheVariants.{Verification, Lookup, Transcript, OutOfMemory}
use Rattle.verifier_batch.specs.BatchChecks.{all_lookup_challenges, checks, domains_of, draw_part, drawn_of, identities_at, identity_part}
use Rattle.verifier_batch.specs.Laws.Parts.{opening_part, shape_part, terminal_part}

-- an error that says something of the proof
abbrev pub IsProofFault : {R : Type 0} → BatchVerificationError R → Type 0
IsProofFault (Verification e) = ⊤
IsProofFault (Lookup e) = ⊤
IsProofFault (Transcript e) = ⊤
IsProofFault OutOfMemory = ⊥

-- so does each check's refusal
unfoldable pub AreFaults : {R : Type 0} → List (Check (BatchVerificationError R)) → Type 0
AreFaults [] = ⊤
AreFaults {R} (c ∷ cs) = ((e : BatchVerificationError R) → c.refusal e → IsProofFault e) × AreFaults cs

faults_none : (R : Type 0) → AreFaults {R = R} []
unfolding AreFaults
faults_none R = tt

module _ {R : Type 0} where
  faults_check : (r : BatchVerificationError R) (P : Type 0) (cs : List (Check (BatchVerificationError R))) → IsProofFault r → AreFaults cs → AreFaults (check r P ∷ cs)
  unfolding AreFaults
  faults_check r P cs f s = (λ e same. subst IsProofFault (sym same) f, s)

  faults_before : (c : Check (BatchVerificationError R)) (cs : List (Check (BatchVerificationError R))) → ((e : BatchVerificationError R) → c.refusal e → IsProofFault e) → AreFaults cs
      → AreFaults (c ∷ cs)
  unfolding AreFaults
  faults_before c cs f s = (f, s)

  faults_append : (xs ys : List (Check (BatchVerificationError R))) → AreFaults xs → AreFaults ys → AreFaults (xs ++ ys)
  unfolding AreFaults
  faults_append [] ys f g = g
  faults_append (x ∷ xs) ys f g = (f.0, faults_append xs ys f.1 g)

  faults_in_turn : (f : ℕ → List (Check (BatchVerificationError R))) (n : ℕ) → ((i : ℕ) → AreFaults (f i)) → AreFaults (in_turn n f)
  unfolding in_turn AreFaults
  faults_in_turn f zero h = tt
  faults_in_turn f (suc n) h = faults_append (in_turn n f) (f n) (faults_in_turn f n h) (h n)

  -- so does the first that fails
  pub first_is_fault : (cs : List (Check (BatchVerificationError R))) (e : BatchVerificationError R) → AreFaults cs → FirstFails cs e → IsProofFault e
  unfolding FirstFails AreFaults
  first_is_fault [] e s f = absurd f
  first_is_fault (c ∷ cs) e s f = elim f [ inl t ↦ first_is_fault cs e s.1 t.1 | inr t ↦ s.0 e t.1 ]

-- the checks of what is opened of a table
module _ {E : Type 0} (R : Type 0) where
  next_faults : (i width : ℕ) (declared : List ℕ) (next : Option (List E)) → AreFaults (next_check {R = R} i width declared next ∷ [])
  next_faults i width [] next = faults_check _ _ _ tt (faults_none _)
  next_faults i width (d ∷ ds) next = faults_check _ _ _ tt (faults_none _)

  main_faults : {F : Type 0} (i : ℕ) (d : Declaration F) (publics : ℕ) (o : OpenedData E) → AreFaults (main_checks {R = R} i d publics o)
  main_faults i d publics o = faults_check _ _ _ tt (faults_check _ _ _ tt (next_faults i d.width d.main_next o.trace_next))

  chunks_faults : (i chunks dimension : ℕ) (o : OpenedData E) → AreFaults (chunk_checks {R = R} i chunks dimension o)
  chunks_faults i chunks dimension o = faults_check _ _ _ tt (faults_check _ _ _ tt (faults_check _ _ _ tt (faults_none _)))

  preprocessed_faults : (i width : ℕ) (declared : List ℕ) (p : Option (PreprocessedData E)) → AreFaults (preprocessed_checks {R = R} i width declared p)
  preprocessed_faults i zero declared p = faults_check _ _ _ tt (faults_none _)
  preprocessed_faults i (suc n) declared p = faults_check _ _ _ tt (faults_check _ _ _ tt (faults_none _))

  lookups_faults : (i lookups dimension : ℕ) (o : OpenedWithLookups E) (terminal : Bool) → AreFaults (lookup_checks {R = R} i lookups dimension o terminal)
  lookups_faults i lookups dimension o terminal = faults_check _ _ _ tt (faults_check _ _ _ tt (faults_none _))

  table_faults : {F : Type 0} (i : ℕ) (d : Declaration F) (publics chunks dimension lookups : ℕ) (o : OpenedWithLookups E) (terminal : Bool)
      → AreFaults (table_checks {R = R} i d publics chunks dimension lookups o terminal)
  unfolding table_checks
  table_faults i d publics chunks dimension lookups o terminal =
      let main = main_checks {R = R} i d publics o.base in
      let own = chunk_checks {R = R} i chunks dimension o.base in
      let fixed = preprocessed_checks {R = R} i (width_of d.preprocessed) d.preprocessed_next o.base.preprocessed in
      let sums = lookup_checks {R = R} i lookups dimension o terminal in
      faults_append (main ++ own ++ fixed) sums
      (faults_append (main ++ own) fixed (faults_append main own (main_faults i d publics o.base) (chunks_faults i chunks dimension o.base))
      (preprocessed_faults i (width_of d.preprocessed) d.preprocessed_next o.base.preprocessed))
      (lookups_faults i lookups dimension o terminal)

-- those of a proof's shape
module _ {F E C P : Type 0} (R : Type 0) (f : Ring F) (b : Bounds) (s : Statement F C) (p : ProofData F E C P) where
  counts_faults : AreFaults (count_checks {R = R} b.zk s p)
  counts_faults = faults_check _ _ _ tt (faults_check _ _ _ tt (faults_none _))

  sizes_faults : AreFaults (size_part {R = R} f b s p)
  sizes_faults =
      faults_in_turn (sizes_at {R = R} f b.least b.most b.masks s.tables s.common.lookups p.degree_bits) (length s.tables)
      (λ i. faults_check _ _ _ tt (faults_check _ _ _ tt (faults_check _ _ _ tt (faults_none _))))

  buses_faults : AreFaults (bus_bound_part {R = R} b s p)
  buses_faults =
      faults_in_turn (bound_at {R = R} b.order s.common.lookups (heights_of b.masks p.degree_bits (length s.tables))) (bus_count (batch_buses s.common.lookups))
      (λ i. faults_check _ _ _ tt (faults_none _))

  opened_faults : AreFaults (opened_part {R = R} f b s p)
  opened_faults =
      faults_in_turn (opened_checks {R = R} f b.masks b.dimension s p) (length s.tables)
      (λ i. table_faults R i (get_or s.tables i no_table).declaration _ _ _ _ (get_or p.instances i no_opened) _)

  permutation_faults : AreFaults (permutation_check {R = R} s p)
  permutation_faults = faults_check _ _ _ tt (faults_none _)

  shape_faults : AreFaults (shape_checks {R = R} f b s p)
  unfolding shape_checks
  shape_faults =
      let counts = count_checks {R = R} b.zk s p in
      let sizes = size_part {R = R} f b s p in
      let bounds = bus_bound_part {R = R} b s p in
      let opened = opened_part {R = R} f b s p in
      faults_append (counts ++ sizes ++ bounds ++ opened) (permutation_check s p)
      (faults_append (counts ++ sizes ++ bounds) opened (faults_append (counts ++ sizes) bounds (faults_append counts sizes counts_faults sizes_faults) buses_faults) opened_faults)
      permutation_faults

-- those of the grinding values
lookup_faults : {F : Type 0} (R : Type 0) (z : F) (tables bits : ℕ) (w : Option F) (passed : Bool) → AreFaults (lookup_grinding {R = R} z tables bits w passed)
lookup_faults R z zero bits w passed = faults_check _ _ _ tt (faults_none _)
lookup_faults R z (suc n) bits w passed = faults_check _ _ _ tt (faults_check _ _ _ tt (faults_check _ _ _ tt (faults_none _)))

ood_faults : {F : Type 0} (R : Type 0) (z : F) (bits : ℕ) (w : F) (passed : Bool) → AreFaults (ood_grinding {R = R} z bits w passed)
ood_faults R z bits w passed = faults_check _ _ _ tt (faults_check _ _ _ tt (faults_none _))

-- those of a table's identity
verified_faults : {R : Type 0} (cs : List (Check (VerificationError R))) → AreFaults (map verified cs)
verified_faults [] = faults_none _
verified_faults (c ∷ cs) = faults_before (verified c) (map verified cs) (λ e r. subst IsProofFault (sym r.2) tt) (verified_faults cs)

-- all of them
module _ {S F E C P R : Type 0} (c : Setting S F E C) (b : Backend S F E C P R) (s : Statement F C) (p : ProofData F E C P) where
  draws_faults : AreFaults (draw_part c s p {R = R})
  unfolding grinding_checks
  draws_faults =
      let d = drawn c.challenger c.field.ring c.extension.ring c.extension.dimension c.initial c.version c.zk c.lookup_bits c.ood_bits s p in
      let n = (script_shape c.version c.zk c.lookup_bits c.ood_bits s).num_lookup_instances in
      faults_append (lookup_grinding c.field.ring.zero n c.lookup_bits p.lookup_pow_witness d.lookup_passed) (ood_grinding c.field.ring.zero c.ood_bits p.ood_pow_witness d.ood_passed)
      (lookup_faults R c.field.ring.zero n c.lookup_bits p.lookup_pow_witness d.lookup_passed) (ood_faults R c.field.ring.zero c.ood_bits p.ood_pow_witness d.ood_passed)

  claims_faults : AreFaults (claim_checks c s p {R = R})
  unfolding claim_checks
  claims_faults =
      faults_append _ _
      (faults_in_turn (domain_checks c s p {R = R}) (length s.tables) (λ i. faults_check _ _ _ tt (faults_check _ _ _ tt (faults_none _))))
      (faults_in_turn (metadata_check c s p {R = R}) (length (matrix_tables s.common.preprocessed)) (λ m. faults_check _ _ _ tt (faults_none _)))

  openings_faults : (zeta : E) (state : S) → AreFaults (opening_checks c b s p zeta state)
  unfolding opening_checks
  openings_faults zeta state =
      let made = claims c (claimed c s p) zeta in
      faults_append (claim_checks c s p) (opens_check b state made p.opening_proof) claims_faults
      (faults_before _ [] (λ e r. subst IsProofFault (sym r.2) tt) (faults_none _))

  tables_faults : AreFaults (identity_part c s p {R = R})
  tables_faults =
      faults_in_turn (identities_at c s p {R = R} (all_lookup_challenges c s p) (domains_of c s p) (drawn_of c s p).alpha (drawn_of c s p).zeta) (length s.tables)
      (λ i. faults_before _ _ (λ e r. subst IsProofFault (sym r.2) tt) (verified_faults _))

  checks_faults : AreFaults (checks c b s p)
  unfolding checks
  checks_faults =
      let shape = shape_part c b s p in
      let draws = draw_part c s p {R = R} in
      let openings = opening_part c b s p in
      let identities = identity_part c s p {R = R} in
      faults_append (shape ++ draws ++ openings ++ identities) (terminal_part c b s p)
      (faults_append (shape ++ draws ++ openings) identities
      (faults_append (shape ++ draws) openings (faults_append shape draws (shape_faults R c.field.ring (shape_bounds_of c) s p) draws_faults)
      (openings_faults (drawn_of c s p).zeta (drawn_of c s p).opening)) tables_faults)
      (faults_check _ _ _ tt (faults_none _))

  pub never_memory : FirstFails (checks c b s p) OutOfMemory → ⊥
  never_memory f = first_is_fault (checks c b s p) OutOfMemory checks_faults f
