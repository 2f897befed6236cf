-- What it says of a batch that no check of its proof fails: its shape, what the backend opens, and each table's identity.
use Rattle.std.proofs.Common.{◌≡◌, ℕ, zero, suc, ◌+◌, ◌-◌, ◌^◌, ◌<◌, ◌≤◌, Bool, true, false, List, [], ◌∷◌, ◌++◌, Option, None, Some, length, get_or, map, refl, ◌∙◌, subst, arith, sym}
use Rattle.std.specs.Prelude.{All, option_to_list}
use Rattle.std.specs.List.{list_any}
use Rattle.std.proofs.lemmas.List.Folds.{list_any_at}
use Rattle.p3_field.specs.Checks.{Check, NoneFails, in_turn}
use Rattle.p3_field.specs.Domain.{CosetData, subgroup}
use Rattle.p3_field.specs.Field.{TwoAdic, Extension}
use Rattle.p3_field.specs.Laws.Checks.{none_at, none_before, none_after}
use Rattle.p3_field.specs.Laws.Tabulate.{get_or-tabulate}
use Rattle.p3_field.specs.Ring.{Ring}
use Rattle.air_core.specs.Shape.{Declaration, width_of}
use Rattle.commit_core.specs.Periodic.{IsPeriod}
use Rattle.p3_lookup.specs.Lookup.{LookupData}
use Rattle.p3_uni_stark.specs.Opened.{PreprocessedData}
use Rattle.p3_uni_stark.specs.Recombine.{recombined}
use Rattle.batch_constraints.specs.BatchTrees.{table_trees}
use Rattle.verifier_identity.specs.Identity.{Identity, OpenedTable, identity_checks}
use Rattle.batch_config.specs.Domains.{chunk_domains}
use Rattle.batch_config.specs.Setting.{Setting, Backend, masks}
use Rattle.batch_statement.specs.Proof.{OpenedWithLookups, ProofData}
use Rattle.batch_statement.specs.Statement.{Statement, AirTable}
use Rattle.batch_statement.specs.declared.error.BatchVerificationError.{BatchVerificationError}
use Rattle.verifier_shape.specs.Laws.Parts.{counted}
use Rattle.verifier_shape.specs.ShapeChecks.{HaveItemForEachTable, Bounds, bus_bound_part, chunk_checks, count_checks, is_some, lookup_checks, main_checks, opened_checks, opened_part, permutation_check, permutation_width, preprocessed_checks, shape_checks, size_part, table_checks}
use Rattle.batch_statement.specs.Words.{has_some, is_there, no_opened, no_table, bits_at}
use Rattle.verifier_claims.specs.Claims.{claims, preprocessed_local_row, matrix_tables}
use Rattle.verifier_batch.specs.OpeningChecks.{shape_bounds_of, claim_checks, claimed, domain_checks, log_chunks_of_table, metadata_check, opening_checks, opens_check}
use Rattle.verifier_identity.specs.TableIdentity.{identity_of_table, opened_table, periods_check, terminal_check, verified}
use Rattle.verifier_batch.specs.BatchChecks.{Accepted, all_lookup_challenges, checks, domains_of, draw_part, drawn_of, identities_at, identity_part, table_challenges_of}
use Rattle.law_soundness.specs.CommittedBatch.{permutation_count}

-- no preprocessed row where no column is
absent : {E : Type 0} (R : Type 0) (i width : ℕ) (declared : List ℕ) (p : Option (PreprocessedData E)) → width ≡ 0 → NoneFails (preprocessed_checks {R = R} i width declared p) → p ≡ None
unfolding NoneFails
absent R i zero declared None none h = refl
absent R i zero declared (Some p) none h = let w : true ≡ false = h.0 in absurd cc
absent R i (suc n) declared p none h = absurd (omega (arith, none))

-- the row has as many values as columns
fixed_wide : {E : Type 0} (R : Type 0) (i width : ℕ) (declared : List ℕ) (p : Option (PreprocessedData E)) → NoneFails (preprocessed_checks {R = R} i width declared p) → length (preprocessed_local_row p) ≡ width
unfolding NoneFails
fixed_wide R i zero declared None h = refl
fixed_wide R i zero declared (Some p) h = let w : true ≡ false = h.0 in absurd cc
fixed_wide R i (suc n) declared None h = absurd h.0
fixed_wide R i (suc n) declared (Some p) h = h.0.0

-- a terminal is there where lookups are
terminal_counted : {E : Type 0} (lookups : ℕ) (t : Option E) → is_there t ≡ is_some lookups → length (option_to_list t) ≡ permutation_count lookups
terminal_counted zero None h = refl
terminal_counted zero (Some x) h = let w : true ≡ false = h in absurd cc
terminal_counted (suc n) None h = let w : false ≡ true = h in absurd cc
terminal_counted (suc n) (Some x) h = refl

-- what is opened of one table
module _ {F E : Type 0} (R : Type 0) (i : ℕ) (d : Declaration F) (publics chunks dimension lookups : ℕ) (o : OpenedWithLookups E) (terminal : Bool)
    (h : NoneFails (table_checks {R = R} i d publics chunks dimension lookups o terminal)) where
  main_part : NoneFails (main_checks {R = R} i d publics o.base)
  unfolding table_checks
  main_part =
      let a = main_checks {R = R} i d publics o.base in
      let b = chunk_checks {R = R} i chunks dimension o.base in
      let e = preprocessed_checks {R = R} i (width_of d.preprocessed) d.preprocessed_next o.base.preprocessed in
      none_before a b (none_before (a ++ b) e (none_before (a ++ b ++ e) (lookup_checks {R = R} i lookups dimension o terminal) h))

  chunk_part : NoneFails (chunk_checks {R = R} i chunks dimension o.base)
  unfolding table_checks
  chunk_part =
      let a = main_checks {R = R} i d publics o.base in
      let b = chunk_checks {R = R} i chunks dimension o.base in
      let e = preprocessed_checks {R = R} i (width_of d.preprocessed) d.preprocessed_next o.base.preprocessed in
      none_after a b (none_before (a ++ b) e (none_before (a ++ b ++ e) (lookup_checks {R = R} i lookups dimension o terminal) h))

  preprocessed_part : NoneFails (preprocessed_checks {R = R} i (width_of d.preprocessed) d.preprocessed_next o.base.preprocessed)
  unfolding table_checks
  preprocessed_part =
      let a = main_checks {R = R} i d publics o.base in
      let b = chunk_checks {R = R} i chunks dimension o.base in
      let e = preprocessed_checks {R = R} i (width_of d.preprocessed) d.preprocessed_next o.base.preprocessed in
      none_after (a ++ b) e (none_before (a ++ b ++ e) (lookup_checks {R = R} i lookups dimension o terminal) h)

  lookup_part : NoneFails (lookup_checks {R = R} i lookups dimension o terminal)
  unfolding table_checks
  lookup_part =
      let a = main_checks {R = R} i d publics o.base in
      let b = chunk_checks {R = R} i chunks dimension o.base in
      let e = preprocessed_checks {R = R} i (width_of d.preprocessed) d.preprocessed_next o.base.preprocessed in
      none_after (a ++ b ++ e) (lookup_checks {R = R} i lookups dimension o terminal) h

  pub chunks_counted : length o.base.quotient_chunks ≡ chunks
  unfolding NoneFails
  chunks_counted = chunk_part.0

  -- as many public values and columns as are declared
  pub publics_counted : publics ≡ d.public_values
  unfolding NoneFails
  publics_counted = main_part.0

  pub columns_counted : length o.base.trace_local ≡ d.width
  unfolding NoneFails
  columns_counted = main_part.1.0

  pub fixed_counted : length (preprocessed_local_row o.base.preprocessed) ≡ width_of d.preprocessed
  fixed_counted = fixed_wide R i (width_of d.preprocessed) d.preprocessed_next o.base.preprocessed preprocessed_part

  pub chunks_wide : All (λ c. length c ≡ dimension) o.base.quotient_chunks
  unfolding NoneFails
  chunks_wide = chunk_part.1.0

  pub terminals_counted : (t : Option E) → terminal ≡ is_there t → length (option_to_list t) ≡ permutation_count lookups
  unfolding NoneFails
  terminals_counted t there = terminal_counted lookups t (sym there ∙ lookup_part.1.0)

  pub rows_wide : (length o.permutation_local ≡ permutation_width lookups dimension) × (length o.permutation_next ≡ permutation_width lookups dimension)
  unfolding NoneFails
  rows_wide = lookup_part.0

  -- no preprocessed row is opened where there are no preprocessed columns
  pub no_preprocessed : width_of d.preprocessed ≡ 0 → o.base.preprocessed ≡ None
  no_preprocessed none = absent R i (width_of d.preprocessed) d.preprocessed_next o.base.preprocessed none preprocessed_part

-- the identity of one table
module _ {F E : Type 0} (R : Type 0) (f : TwoAdic F) (e : Extension F E) (i k : ℕ) (t : AirTable F) (lookups : List (LookupData F)) (publics : List F) (challenges : List E) (terminal : Option E)
    (domains : List (CosetData F)) (alpha zeta : E) (o : OpenedWithLookups E) (h : NoneFails (identity_of_table {R = R} f e i k t lookups publics challenges terminal domains alpha zeta o)) where
  abbrev reads : OpenedTable F E
  reads = opened_table f e (subgroup f.ring k) t.declaration (length lookups) publics challenges (option_to_list terminal) zeta o

  pub periods_fit : All (IsPeriod (2 ^ k)) (map length t.declaration.periodic)
  unfolding NoneFails
  periods_fit =
      let first = periods_check {R = R} (2 ^ k) (map length t.declaration.periodic) in
      let rest = map verified (identity_checks f e {R = R} (Some i) (subgroup f.ring k) alpha zeta reads (table_trees f.ring t.trees lookups) (recombined f e domains o.base.quotient_chunks zeta)) in
      (none_before first rest h).0

  pub identity_holds : Identity f e (subgroup f.ring k) alpha zeta reads (table_trees f.ring t.trees lookups) (recombined f e domains o.base.quotient_chunks zeta)
  unfolding NoneFails identity_checks
  identity_holds =
      let first = periods_check {R = R} (2 ^ k) (map length t.declaration.periodic) in
      let rest = map verified (identity_checks f e {R = R} (Some i) (subgroup f.ring k) alpha zeta reads (table_trees f.ring t.trees lookups) (recombined f e domains o.base.quotient_chunks zeta)) in
      (none_after first rest h).1.0

-- the shape of a batch
module _ {F E C P : Type 0} (R : Type 0) (f : Ring F) (b : Bounds) (s : Statement F C) (p : ProofData F E C P) (h : NoneFails (shape_checks {R = R} f b s p)) where
  pub counts_hold : HaveItemForEachTable s p
  unfolding shape_checks
  counts_hold =
      let k = count_checks {R = R} b.zk s p in
      let l = size_part {R = R} f b s p in
      let m = bus_bound_part {R = R} b s p in
      let n = opened_part {R = R} f b s p in
      counted R b.zk s p (none_before k l (none_before (k ++ l) m (none_before (k ++ l ++ m) n (none_before (k ++ l ++ m ++ n) (permutation_check {R = R} s p) h))))

  tables_part : NoneFails (opened_part {R = R} f b s p)
  unfolding shape_checks
  tables_part =
      let k = count_checks {R = R} b.zk s p in
      let l = size_part {R = R} f b s p in
      let m = bus_bound_part {R = R} b s p in
      let n = opened_part {R = R} f b s p in
      none_after (k ++ l ++ m) n (none_before (k ++ l ++ m ++ n) (permutation_check {R = R} s p) h)

  pub table_opened : (i : ℕ) → i < length s.tables → NoneFails (opened_checks {R = R} f b.masks b.dimension s p i)
  table_opened i l = none_at (opened_checks {R = R} f b.masks b.dimension s p) (length s.tables) i l tables_part

  presence : is_there p.commitments.permutation ≡ list_any has_some s.common.lookups
  unfolding NoneFails shape_checks
  presence =
      let k = count_checks {R = R} b.zk s p in
      let l = size_part {R = R} f b s p in
      let m = bus_bound_part {R = R} b s p in
      let n = opened_part {R = R} f b s p in
      (none_after (k ++ l ++ m ++ n) (permutation_check {R = R} s p) h).0

  -- permutation columns are committed to where a table has lookups
  pub permutation_there : (i : ℕ) → i < length s.common.lookups → 0 < length (get_or s.common.lookups i []) → (commitment : C) × (p.commitments.permutation ≡ Some commitment)
  permutation_there i l some = there p.commitments.permutation (presence ∙ list_any_at has_some s.common.lookups i [] l (has_one (get_or s.common.lookups i []) some))
    where
      has_one : {A : Type 0} (xs : List A) → 0 < length xs → has_some xs ≡ true
      has_one [] h = absurd (omega (arith, h))
      has_one (x ∷ xs) h = refl

      there : {C : Type 0} (o : Option C) → is_there o ≡ true → (x : C) × (o ≡ Some x)
      there None h = absurd cc
      there (Some x) h = (x, refl)

-- all checks of a batch
module _ {S F E C P R : Type 0} (c : Setting S F E C) (b : Backend S F E C P R) (s : Statement F C) (p : ProofData F E C P) (accepted : Accepted c b s p) where
  abbrev shape : List (Check (BatchVerificationError R))
  shape = shape_checks {R = R} c.field.ring (shape_bounds_of c) s p

  abbrev openings : List (Check (BatchVerificationError R))
  openings = opening_checks c b s p (drawn_of c s p).zeta (drawn_of c s p).opening

  pub shape_accepted : NoneFails shape
  unfolding checks
  shape_accepted =
      let draws = draw_part c s p {R = R} in
      let identities = identity_part c s p {R = R} in
      none_before shape draws (none_before (shape ++ draws) openings (none_before (shape ++ draws ++ openings) identities
      (none_before (shape ++ draws ++ openings ++ identities) (terminal_check c.extension.ring p.lookup_terminals) accepted)))

  openings_accepted : NoneFails openings
  unfolding checks
  openings_accepted =
      let draws = draw_part c s p {R = R} in
      let identities = identity_part c s p {R = R} in
      none_after (shape ++ draws) openings (none_before (shape ++ draws ++ openings) identities
      (none_before (shape ++ draws ++ openings ++ identities) (terminal_check c.extension.ring p.lookup_terminals) accepted))

  identities_accepted : NoneFails (identity_part c s p {R = R})
  unfolding checks
  identities_accepted =
      let draws = draw_part c s p {R = R} in
      let identities = identity_part c s p {R = R} in
      none_after (shape ++ draws ++ openings) identities
      (none_before (shape ++ draws ++ openings ++ identities) (terminal_check c.extension.ring p.lookup_terminals) accepted)

  -- the backend opens what the proof claims
  pub claims_opened : b.opens (drawn_of c s p).opening (claims c (claimed c s p) (drawn_of c s p).zeta) p.opening_proof
  unfolding NoneFails opening_checks
  claims_opened = (none_after (claim_checks c s p {R = R}) (opens_check b (drawn_of c s p).opening (claims c (claimed c s p) (drawn_of c s p).zeta) p.opening_proof) openings_accepted).0

  -- each quotient has a domain
  pub domains_fit : (i : ℕ) → i < length s.tables → bits_at p.degree_bits i + log_chunks_of_table c s p i ≤ c.two_adicity
  unfolding NoneFails claim_checks opening_checks
  domains_fit i l =
      let made = none_before (claim_checks c s p {R = R}) (opens_check b (drawn_of c s p).opening (claims c (claimed c s p) (drawn_of c s p).zeta) p.opening_proof) openings_accepted in
      let domains = none_before (in_turn (length s.tables) (domain_checks c s p {R = R})) (in_turn (length (matrix_tables s.common.preprocessed)) (metadata_check c s p {R = R})) made in
      (none_at (domain_checks c s p {R = R}) (length s.tables) i l domains).1.0

  -- no check of table i's identity fails, with its own challenges and domains
  pub table_accepted : (i : ℕ) → i < length s.tables
      → NoneFails (identity_of_table {R = R} c.field c.extension i (get_or p.degree_bits i 0 - masks c) (get_or s.tables i no_table) (get_or s.common.lookups i []) (get_or s.publics i [])
      (table_challenges_of c s p i) (get_or p.lookup_terminals i None) (chunk_domains c (bits_at p.degree_bits i) (log_chunks_of_table c s p i)) (drawn_of c s p).alpha (drawn_of c s p).zeta
      (get_or p.instances i no_opened))
  table_accepted i l =
      let n = length s.tables in
      let alpha = (drawn_of c s p).alpha in
      let zeta = (drawn_of c s p).zeta in
      let own = λ (j : ℕ). chunk_domains c (bits_at p.degree_bits j) (log_chunks_of_table c s p j) in
      let one = none_at (identities_at c s p {R = R} (all_lookup_challenges c s p) (domains_of c s p) alpha zeta) n i l identities_accepted in
      let challenges : get_or (all_lookup_challenges c s p) i [] ≡ table_challenges_of c s p i = get_or-tabulate n (table_challenges_of c s p) i [] l in
      let domains : get_or (domains_of c s p) i [] ≡ own i = get_or-tabulate n own i [] l in
      subst NoneFails
      (λ j. identity_of_table {R = R} c.field c.extension i (get_or p.degree_bits i 0 - masks c) (get_or s.tables i no_table) (get_or s.common.lookups i []) (get_or s.publics i [])
      (challenges j) (get_or p.lookup_terminals i None) (domains j) alpha zeta (get_or p.instances i no_opened)) one
