-- Each check of a batch proof has exactly one refusal where it fails.
use Rattle.std.proofs.Common.{◌≡◌, ℕ, zero, suc, ◌-◌, Bool, List, [], ◌∷◌, ◌++◌, length, get_or, Option, None, Some, sym, ◌∙◌, ap, refl}
use Rattle.p3_field.specs.Checks.{AreSingle, FirstRefusal, HasOneRefusal}
use Rattle.p3_field.specs.Laws.Checks.{none_single, check_single, same_refusal, single_append, single_before, single_in_turn, some_first}
use Rattle.p3_field.specs.Domain.{CosetData}
use Rattle.p3_field.specs.Ring.{Ring}
use Rattle.air_core.specs.Shape.{Declaration, width_of}
use Rattle.commit_core.specs.Claims.{CommitmentClaim}
use Rattle.p3_lookup.specs.Bus.{bus_count, batch_buses}
use Rattle.p3_uni_stark.specs.Opened.{OpenedData, PreprocessedData}
use Rattle.p3_uni_stark.specs.declared.error.VerificationError.TheVariants.{InvalidOpeningArgument}
use Rattle.verifier_claims.specs.Claims.{claims, matrix_tables}
use Rattle.verifier_draws.specs.Laws.Singles.{grinding_single}
use Rattle.verifier_identity.specs.Laws.Single.{table_single, terminals_single}
use Rattle.verifier_batch.specs.OpeningChecks.{shape_bounds_of, claim_checks, claimed, domain_checks, metadata_check, opening_checks, opens_check}
use Rattle.batch_config.specs.Setting.{Setting, Backend, masks}
use Rattle.verifier_shape.specs.ShapeChecks.{Bounds, bound_at, bus_bound_part, chunk_checks, count_checks, heights_of, lookup_checks, main_checks, next_check, opened_checks, opened_part, permutation_check, preprocessed_checks, shape_checks, size_part, sizes_at, table_checks}
use Rattle.batch_statement.specs.Words.{no_opened, no_table}
use Rattle.batch_statement.specs.Proof.{OpenedWithLookups, ProofData}
use Rattle.batch_statement.specs.Statement.{Statement}
use Rattle.batch_statement.specs.declared.error.BatchVerificationError.{BatchVerificationError}
use Rattle.batch_statement.specs.declared.error.BatchVerificationError.TheVariants.{Verification}
use Rattle.verifier_batch.specs.BatchChecks.{all_lookup_challenges, checks, domains_of, draw_part, drawn_of, identities_at, identity_part}
use Rattle.verifier_batch.specs.Laws.Parts.{opening_part, shape_part, terminal_part}

-- a backend has exactly one fault of a proof that doesn't open the claims
abbrev pub FaultsAreSingle : {S F E C P R : Type 0} → Backend S F E C P R → Type 0
FaultsAreSingle {S} {F} {E} {C} {P} {R} b =
    (state : S) (made : List (CommitmentClaim E C (CosetData F))) (proof : P) → HasOneRefusal (record { refusal = b.fault state made proof; holds = b.opens state made proof })

-- the checks of what is opened of a table
module _ {E : Type 0} (R : Type 0) where
  next_single : (i width : ℕ) (declared : List ℕ) (next : Option (List E)) → AreSingle (next_check {R = R} i width declared next ∷ [])
  next_single i width [] next = check_single _ _ _ (none_single (BatchVerificationError R))
  next_single i width (d ∷ ds) next = check_single _ _ _ (none_single (BatchVerificationError R))

  main_single : {F : Type 0} (i : ℕ) (d : Declaration F) (publics : ℕ) (o : OpenedData E) → AreSingle (main_checks {R = R} i d publics o)
  main_single i d publics o = check_single _ _ _ (check_single _ _ _ (next_single i d.width d.main_next o.trace_next))

  chunks_single : (i chunks dimension : ℕ) (o : OpenedData E) → AreSingle (chunk_checks {R = R} i chunks dimension o)
  chunks_single i chunks dimension o = check_single _ _ _ (check_single _ _ _ (check_single _ _ _ (none_single (BatchVerificationError R))))

  preprocessed_single : (i width : ℕ) (declared : List ℕ) (p : Option (PreprocessedData E)) → AreSingle (preprocessed_checks {R = R} i width declared p)
  preprocessed_single i zero declared p = check_single _ _ _ (none_single (BatchVerificationError R))
  preprocessed_single i (suc n) declared p = check_single _ _ _ (check_single _ _ _ (none_single (BatchVerificationError R)))

  lookups_single : (i lookups dimension : ℕ) (o : OpenedWithLookups E) (terminal : Bool) → AreSingle (lookup_checks {R = R} i lookups dimension o terminal)
  lookups_single i lookups dimension o terminal = check_single _ _ _ (check_single _ _ _ (none_single (BatchVerificationError R)))

  table_opened_single : {F : Type 0} (i : ℕ) (d : Declaration F) (publics chunks dimension lookups : ℕ) (o : OpenedWithLookups E) (terminal : Bool)
      → AreSingle (table_checks {R = R} i d publics chunks dimension lookups o terminal)
  unfolding table_checks
  table_opened_single i d publics chunks dimension lookups o terminal =
      let main = main_checks {R = R} i d publics o.base in
      let own = chunk_checks {R = R} i chunks dimension o.base in
      let fixed = preprocessed_checks {R = R} i (width_of d.preprocessed) d.preprocessed_next o.base.preprocessed in
      let sums = lookup_checks {R = R} i lookups dimension o terminal in
      single_append (main ++ own ++ fixed) sums
      (single_append (main ++ own) fixed (single_append main own (main_single i d publics o.base) (chunks_single i chunks dimension o.base))
      (preprocessed_single i (width_of d.preprocessed) d.preprocessed_next o.base.preprocessed))
      (lookups_single i lookups dimension o terminal)

-- those of a proof's shape
module _ {F E C P : Type 0} (R : Type 0) (f : Ring F) (b : Bounds) (s : Statement F C) (p : ProofData F E C P) where
  counts_single : AreSingle (count_checks {R = R} b.zk s p)
  counts_single = check_single _ _ _ (check_single _ _ _ (none_single (BatchVerificationError R)))

  sizes_single : AreSingle (size_part {R = R} f b s p)
  sizes_single =
      single_in_turn (sizes_at {R = R} f b.least b.most b.masks s.tables s.common.lookups p.degree_bits) (length s.tables)
      (λ i. check_single _ _ _ (check_single _ _ _ (check_single _ _ _ (none_single (BatchVerificationError R)))))

  buses_single : AreSingle (bus_bound_part {R = R} b s p)
  buses_single =
      single_in_turn (bound_at {R = R} b.order s.common.lookups (heights_of b.masks p.degree_bits (length s.tables))) (bus_count (batch_buses s.common.lookups))
      (λ i. check_single _ _ _ (none_single (BatchVerificationError R)))

  opened_single : AreSingle (opened_part {R = R} f b s p)
  opened_single =
      single_in_turn (opened_checks {R = R} f b.masks b.dimension s p) (length s.tables)
      (λ i. table_opened_single R i (get_or s.tables i no_table).declaration _ _ _ _ (get_or p.instances i no_opened) _)

  permutation_single : AreSingle (permutation_check {R = R} s p)
  permutation_single = check_single _ _ _ (none_single (BatchVerificationError R))

  pub shape_single : AreSingle (shape_checks {R = R} f b s p)
  unfolding shape_checks
  shape_single =
      let counts = count_checks {R = R} b.zk s p in
      let sizes = size_part {R = R} f b s p in
      let bounds = bus_bound_part {R = R} b s p in
      let opened = opened_part {R = R} f b s p in
      single_append (counts ++ sizes ++ bounds ++ opened) (permutation_check s p)
      (single_append (counts ++ sizes ++ bounds) opened (single_append (counts ++ sizes) bounds (single_append counts sizes counts_single sizes_single) buses_single) opened_single)
      permutation_single

-- those of what is opened, and all of them
module _ {S F E C P R : Type 0} (c : Setting S F E C) (b : Backend S F E C P R) (s : Statement F C) (p : ProofData F E C P) (one : FaultsAreSingle b) where
  claims_single : AreSingle (claim_checks c s p {R = R})
  unfolding claim_checks
  claims_single =
      single_append _ _
      (single_in_turn (domain_checks c s p {R = R}) (length s.tables) (λ i. check_single _ _ _ (check_single _ _ _ (none_single (BatchVerificationError R)))))
      (single_in_turn (metadata_check c s p {R = R}) (length (matrix_tables s.common.preprocessed)) (λ m. check_single _ _ _ (none_single (BatchVerificationError R))))

  opens_single : (state : S) (made : List (CommitmentClaim E C (CosetData F))) (proof : P) → AreSingle (opens_check b state made proof)
  opens_single state made proof =
      single_before _ [] (record {
        same = λ d e x y. x.2 ∙ (ap (λ r. Verification (InvalidOpeningArgument r)) ((one state made proof).same x.0 y.0 x.1 y.1) ∙ sym y.2);
        some = λ n none. (one state made proof).some n (λ r fault. none (Verification (InvalidOpeningArgument r)) (r, fault, refl));
      }) (none_single (BatchVerificationError R))

  openings_single : (zeta : E) (state : S) → AreSingle (opening_checks c b s p zeta state)
  unfolding opening_checks
  openings_single zeta state =
      let made = claims c (claimed c s p) zeta in
      single_append (claim_checks c s p) (opens_check b state made p.opening_proof) claims_single (opens_single state made p.opening_proof)

  draws_single : AreSingle (draw_part c s p {R = R})
  draws_single =
      grinding_single R c.challenger c.field.ring c.extension.ring c.extension.dimension c.initial c.version c.zk c.lookup_bits c.ood_bits s p

  tables_single : AreSingle (identity_part c s p {R = R})
  tables_single =
      single_in_turn (identities_at c s p {R = R} (all_lookup_challenges c s p) (domains_of c s p) (drawn_of c s p).alpha (drawn_of c s p).zeta) (length s.tables)
      (λ i. table_single R c.field c.extension i (get_or p.degree_bits i 0 - masks c) (get_or s.tables i no_table) (get_or s.common.lookups i []) (get_or s.publics i [])
      (get_or (all_lookup_challenges c s p) i []) (get_or p.lookup_terminals i None) (get_or (domains_of c s p) i []) (drawn_of c s p).alpha (drawn_of c s p).zeta (get_or p.instances i no_opened))

  pub checks_single : AreSingle (checks c b s p)
  unfolding checks
  checks_single =
      let shape = shape_part c b s p in
      let draws = draw_part c s p {R = R} in
      let openings = opening_part c b s p in
      let identities = identity_part c s p {R = R} in
      single_append (shape ++ draws ++ openings ++ identities) (terminal_part c b s p)
      (single_append (shape ++ draws ++ openings) identities
      (single_append (shape ++ draws) openings (single_append shape draws (shape_single R c.field.ring (shape_bounds_of c) s p) draws_single)
      (openings_single (drawn_of c s p).zeta (drawn_of c s p).opening)) tables_single)
      (terminals_single R c.extension.ring p.lookup_terminals)

  -- so there is one answer: two are the same, and that there is none can't be
  pub one_answer : (d e : Option (BatchVerificationError R)) → FirstRefusal (checks c b s p) d → FirstRefusal (checks c b s p) e → d ≡ e
  one_answer d e x y = same_refusal (checks c b s p) d e checks_single x y

  pub some_answer : ((e : Option (BatchVerificationError R)) → FirstRefusal (checks c b s p) e → ⊥) → ⊥
  some_answer none = some_first (checks c b s p) checks_single (λ h. none None h) (λ e f. none (Some e) f)
