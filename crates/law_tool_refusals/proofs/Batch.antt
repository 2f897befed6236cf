-- The checks of a batch, where its sizes fit the configuration: some of them hold, and the first that fails is one of the others.
use Rattle.std.proofs.Common.{◌≡◌, ℕ, zero, suc, ◌+◌, ◌-◌, ◌^◌, ◌<◌, ◌≤◌, Bool, List, [], ◌∷◌, ◌++◌, length, map, get_or, Option, Some, sym, subst, inl, inr}
use Rattle.std.specs.Prelude.{All}
use Rattle.p3_field.specs.Checks.{FirstFails}
use Rattle.p3_field.specs.Domain.{CosetData}
use Rattle.p3_field.specs.Field.{TwoAdic, Extension}
use Rattle.air_core.specs.Shape.{Declaration, width_of}
use Rattle.air_core.specs.Tree.{Tree}
use Rattle.commit_core.specs.Periodic.{IsPeriod}
use Rattle.p3_lookup.specs.Bound.{HaveLoadsBelow}
use Rattle.p3_uni_stark.specs.Opened.{OpenedData, PreprocessedData}
use Rattle.p3_uni_stark.specs.declared.error.VerificationError.{VerificationError}
use Rattle.verifier_claims.specs.Claims.{claims, matrix_tables}
use Rattle.batch_statement.specs.Words.{bits_at, no_opened, no_table}
use Rattle.verifier_claims.specs.ClaimChecks.{HasDegreeBits}
use Rattle.verifier_draws.specs.Draws.{drawn, grinding_checks, lookup_grinding, ood_grinding, script_shape}
use Rattle.verifier_identity.specs.Identity.{OpenedTable, identity_checks}
use Rattle.verifier_identity.specs.TableIdentity.{verified}
use Rattle.verifier_batch.specs.OpeningChecks.{shape_bounds_of, claim_checks, claimed, domain_checks, log_chunks_of_table, metadata_check, opening_checks, opens_check}
use Rattle.batch_config.specs.Setting.{Setting, Backend, masks}
use Rattle.verifier_shape.specs.ShapeChecks.{HaveItemForEachTable, bus_bound_part, chunk_checks, count_checks, heights_of, lookup_checks, main_checks, next_check, opened_checks, opened_part, permutation_check, preprocessed_checks, shape_checks, size_part, sizes_at, table_checks}
use Rattle.verifier_shape.specs.Laws.Parts.{bounded}
use Rattle.batch_statement.specs.Proof.{OpenedWithLookups, ProofData}
use Rattle.batch_statement.specs.Statement.{Statement, entry_of}
use Rattle.batch_statement.specs.declared.error.BatchVerificationError.{BatchVerificationError}
use Rattle.batch_statement.specs.declared.error.BatchVerificationError.TheVariants.{Verification}
use Rattle.verifier_batch.specs.BatchChecks.{FirstFault, all_lookup_challenges, checks, domains_of, draw_part, drawn_of, identities_at, identity_part}
use Rattle.verifier_batch.specs.Laws.Parts.{opening_part, shape_part, terminal_part}
use Rattle.law_tool_refusals.specs.Possible.{MayCome, VerificationMayCome}
use Rattle.law_tool_refusals.proofs.Left.{LeavesPossible, left_all, left_append, left_before, left_check, left_first, left_held, left_in_turn, left_none}

-- Table i fits: its degree bits lie between the configuration's bounds, its quotient has a domain, it has as many public values as it declares, and periods of
-- its rows.
pub record TableFits {S F E C P : Type 0} (c : Setting S F E C) (s : Statement F C) (p : ProofData F E C P) (i : ℕ) : Type 0 where
  pub least : c.log_min + masks c ≤ bits_at p.degree_bits i
  pub most : bits_at p.degree_bits i ≤ c.log_max
  pub parts : log_chunks_of_table c s p i + masks c < 64
  pub power : bits_at p.degree_bits i + log_chunks_of_table c s p i < 64
  pub domain : bits_at p.degree_bits i + log_chunks_of_table c s p i ≤ c.two_adicity
  pub publics : length (get_or s.publics i []) ≡ (get_or s.tables i no_table).declaration.public_values
  pub periods : All (IsPeriod (2 ^ (bits_at p.degree_bits i - masks c))) (map length (get_or s.tables i no_table).declaration.periodic)

-- So does each table, no bus is overloaded, preprocessed matrices are of the proof's heights, and neither grinding has zero bits.
pub record BatchFits {S F E C P : Type 0} (c : Setting S F E C) (s : Statement F C) (p : ProofData F E C P) : Type 0 where
  pub tables : (i : ℕ) → i < length s.tables → TableFits c s p i
  pub buses : HaveLoadsBelow c.order s.common.lookups (heights_of (masks c) p.degree_bits (length s.tables))
  pub entries : (i : ℕ) → HasDegreeBits (bits_at p.degree_bits i) (entry_of s.common.preprocessed i)
  pub lookup_bits : c.lookup_bits ≡ 0 → ⊥
  pub ood_bits : c.ood_bits ≡ 0 → ⊥

-- what is opened of a table
module _ {E : Type 0} (R : Type 0) where
  next_left : (i width : ℕ) (declared : List ℕ) (next : Option (List E)) → LeavesPossible (next_check {R = R} i width declared next ∷ [])
  next_left i width [] next = left_check _ _ _ tt (left_none _)
  next_left i width (d ∷ ds) next = left_check _ _ _ tt (left_none _)

  main_left : {F : Type 0} (i : ℕ) (d : Declaration F) (publics : ℕ) (o : OpenedData E) → publics ≡ d.public_values → LeavesPossible (main_checks {R = R} i d publics o)
  main_left i d publics o same = left_held _ _ same (left_check _ _ _ tt (next_left i d.width d.main_next o.trace_next))

  chunks_left : (i chunks dimension : ℕ) (o : OpenedData E) → LeavesPossible (chunk_checks {R = R} i chunks dimension o)
  chunks_left i chunks dimension o = left_check _ _ _ tt (left_check _ _ _ tt (left_check _ _ _ tt (left_none _)))

  preprocessed_left : (i width : ℕ) (declared : List ℕ) (p : Option (PreprocessedData E)) → LeavesPossible (preprocessed_checks {R = R} i width declared p)
  preprocessed_left i zero declared p = left_check _ _ _ tt (left_none _)
  preprocessed_left i (suc n) declared p = left_check _ _ _ tt (left_check _ _ _ tt (left_none _))

  lookups_left : (i lookups dimension : ℕ) (o : OpenedWithLookups E) (terminal : Bool) → LeavesPossible (lookup_checks {R = R} i lookups dimension o terminal)
  lookups_left i lookups dimension o terminal = left_check _ _ _ tt (left_check _ _ _ tt (left_none _))

  table_left : {F : Type 0} (i : ℕ) (d : Declaration F) (publics chunks dimension lookups : ℕ) (o : OpenedWithLookups E) (terminal : Bool) → publics ≡ d.public_values
      → LeavesPossible (table_checks {R = R} i d publics chunks dimension lookups o terminal)
  unfolding table_checks
  table_left i d publics chunks dimension lookups o terminal same =
      let main = main_checks {R = R} i d publics o.base in
      let own = chunk_checks {R = R} i chunks dimension o.base in
      let fixed = preprocessed_checks {R = R} i (width_of d.preprocessed) d.preprocessed_next o.base.preprocessed in
      let sums = lookup_checks {R = R} i lookups dimension o terminal in
      left_append (main ++ own ++ fixed) sums
      (left_append (main ++ own) fixed (left_append main own (main_left i d publics o.base same) (chunks_left i chunks dimension o.base))
      (preprocessed_left i (width_of d.preprocessed) d.preprocessed_next o.base.preprocessed))
      (lookups_left i lookups dimension o terminal)

-- the grinding values
lookup_left : {F : Type 0} (R : Type 0) (z : F) (tables bits : ℕ) (w : Option F) (passed : Bool) → (bits ≡ 0 → ⊥) → LeavesPossible (lookup_grinding {R = R} z tables bits w passed)
lookup_left R z zero bits w passed some = left_check _ _ _ tt (left_none _)
lookup_left R z (suc n) bits w passed some = left_check _ _ _ tt (left_held _ _ (λ none. absurd (some none)) (left_check _ _ _ tt (left_none _)))

ood_left : {F : Type 0} (R : Type 0) (z : F) (bits : ℕ) (w : F) (passed : Bool) → (bits ≡ 0 → ⊥) → LeavesPossible (ood_grinding {R = R} z bits w passed)
ood_left R z bits w passed some = left_held _ _ (λ none. absurd (some none)) (left_check _ _ _ tt (left_none _))

-- a table's identity
verified_refusal : {R : Type 0} (r x : VerificationError R) (e : BatchVerificationError R) → VerificationMayCome r → x ≡ r → e ≡ Verification x → MayCome e
verified_refusal {R} r x e may same is =
    subst (λ (d : BatchVerificationError R). MayCome d) (sym is) (subst (λ (y : VerificationError R). VerificationMayCome y) (sym same) may)

verified_left : {F E : Type 0} (R : Type 0) (f : TwoAdic F) (e : Extension F E) (i : ℕ) (d : CosetData F) (alpha zeta : E) (o : OpenedTable F E) (trees : List (Tree F)) (quotient : E)
    → LeavesPossible (map verified (identity_checks f e {R = R} (Some i) d alpha zeta o trees quotient))
unfolding identity_checks
verified_left R f e i d alpha zeta o trees quotient =
    left_before _ _ (λ x r. verified_refusal _ r.0 x tt r.1 r.2) (left_before _ _ (λ x r. verified_refusal _ r.0 x tt r.1 r.2) (left_none _))

module _ {S F E C P R : Type 0} (c : Setting S F E C) (b : Backend S F E C P R) (s : Statement F C) (p : ProofData F E C P) where
  module _ (fits : BatchFits c s p) where
    counts_left : LeavesPossible (count_checks {R = R} c.zk s p)
    counts_left = left_check _ _ _ tt (left_check _ _ _ tt (left_none _))

    sizes_left : LeavesPossible (size_part {R = R} c.field.ring (shape_bounds_of c) s p)
    sizes_left =
        left_in_turn (sizes_at {R = R} c.field.ring (c.log_min + masks c) c.log_max (masks c) s.tables s.common.lookups p.degree_bits) (length s.tables)
        (λ i l. let t = fits.tables i l in left_held _ _ t.least (left_held _ _ t.most (left_held _ _ t.parts (left_none _))))

    buses_left : LeavesPossible (bus_bound_part {R = R} (shape_bounds_of c) s p)
    buses_left = left_all _ (bounded R c.order s.common.lookups (heights_of (masks c) p.degree_bits (length s.tables)) fits.buses)

    opened_left : LeavesPossible (opened_part {R = R} c.field.ring (shape_bounds_of c) s p)
    opened_left =
        left_in_turn (opened_checks {R = R} c.field.ring (masks c) c.extension.dimension s p) (length s.tables)
        (λ i l. table_left R i (get_or s.tables i no_table).declaration _ _ _ _ (get_or p.instances i no_opened) _ (fits.tables i l).publics)

    permutation_left : LeavesPossible (permutation_check {R = R} s p)
    permutation_left = left_check _ _ _ tt (left_none _)

    shape_left : LeavesPossible (shape_checks {R = R} c.field.ring (shape_bounds_of c) s p)
    unfolding shape_checks
    shape_left =
        let counts = count_checks {R = R} c.zk s p in
        let sizes = size_part {R = R} c.field.ring (shape_bounds_of c) s p in
        let bounds = bus_bound_part {R = R} (shape_bounds_of c) s p in
        let opened = opened_part {R = R} c.field.ring (shape_bounds_of c) s p in
        left_append (counts ++ sizes ++ bounds ++ opened) (permutation_check s p)
        (left_append (counts ++ sizes ++ bounds) opened (left_append (counts ++ sizes) bounds (left_append counts sizes counts_left sizes_left) buses_left) opened_left)
        permutation_left

    draws_left : LeavesPossible (draw_part c s p {R = R})
    unfolding grinding_checks
    draws_left =
        let d = drawn c.challenger c.field.ring c.extension.ring c.extension.dimension c.initial c.version c.zk c.lookup_bits c.ood_bits s p in
        let n = (script_shape c.version c.zk c.lookup_bits c.ood_bits s).num_lookup_instances in
        left_append (lookup_grinding c.field.ring.zero n c.lookup_bits p.lookup_pow_witness d.lookup_passed) (ood_grinding c.field.ring.zero c.ood_bits p.ood_pow_witness d.ood_passed)
        (lookup_left R c.field.ring.zero n c.lookup_bits p.lookup_pow_witness d.lookup_passed fits.lookup_bits) (ood_left R c.field.ring.zero c.ood_bits p.ood_pow_witness d.ood_passed fits.ood_bits)

    claims_left : LeavesPossible (claim_checks c s p {R = R})
    unfolding claim_checks
    claims_left =
        left_append _ _
        (left_in_turn (domain_checks c s p {R = R}) (length s.tables) (λ i l. let t = fits.tables i l in left_held _ _ t.power (left_held _ _ t.domain (left_none _))))
        (left_in_turn (metadata_check c s p {R = R}) (length (matrix_tables s.common.preprocessed))
        (λ m l. left_held _ _ (fits.entries (get_or (matrix_tables s.common.preprocessed) m 0)) (left_none _)))

    openings_left : (zeta : E) (state : S) → LeavesPossible (opening_checks c b s p zeta state)
    unfolding opening_checks
    openings_left zeta state =
        let made = claims c (claimed c s p) zeta in
        left_append (claim_checks c s p) (opens_check b state made p.opening_proof) claims_left
        (left_before _ [] (λ e r. subst (λ (d : BatchVerificationError R). MayCome d) (sym r.2) tt) (left_none _))

    identities_left : LeavesPossible (identity_part c s p {R = R})
    identities_left =
        left_in_turn (identities_at c s p {R = R} (all_lookup_challenges c s p) (domains_of c s p) (drawn_of c s p).alpha (drawn_of c s p).zeta) (length s.tables)
        (λ i l. left_held _ _ (fits.tables i l).periods (verified_left R _ _ i _ _ _ _ _ _))

    checks_left : LeavesPossible (checks c b s p)
    unfolding checks
    checks_left =
        let shape = shape_part c b s p in
        let draws = draw_part c s p {R = R} in
        let openings = opening_part c b s p in
        let identities = identity_part c s p {R = R} in
        left_append (shape ++ draws ++ openings ++ identities) (terminal_part c b s p)
        (left_append (shape ++ draws ++ openings) identities
        (left_append (shape ++ draws) openings (left_append shape draws shape_left draws_left)
        (openings_left (drawn_of c s p).zeta (drawn_of c s p).opening)) identities_left)
        (left_check _ _ _ tt (left_none _))

  -- The first check is of the lists' lengths. So where the sizes fit once each list has an item for each table, the first that fails is one that may.
  pub first_may_come : (HaveItemForEachTable s p → BatchFits c s p) → (e : BatchVerificationError R) → FirstFault c b s p e → MayCome e
  unfolding checks shape_checks FirstFails
  first_may_come fits e f = elim f [
    | inl t ↦ left_first (checks c b s p) e (checks_left (fits t.0)) (inl t)
    | inr t ↦ subst (λ (d : BatchVerificationError R). MayCome d) (sym t.1) tt
  ]
