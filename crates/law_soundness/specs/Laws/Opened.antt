-- Where no check of a proof over the plain scheme fails, what it opens of each table is what the committed polynomials have at the drawn point, and the degrees of
-- these are below the table's height.
use Rattle.std.proofs.Common.{◌≡◌, ℕ, zero, suc, ◌+◌, ◌-◌, ◌*◌, ◌^◌, ◌<◌, min, List, [], None, Some, cond, length, get_or, map, sym, ◌∙◌, ap, subst, arith, refl}
use Rattle.std.specs.Prelude.{All, slice_get}
use Rattle.std.proofs.Math.ListN.{get_or-map as get_or-map-past}
use Rattle.std.proofs.lemmas.List.{length-map}
use Rattle.std.proofs.lemmas.List.Elements.{All-from_get_or, All-nil, All-weaker}
use Rattle.p3_field.specs.Checks.{NoneFails}
use Rattle.p3_field.specs.Domain.{CosetData, point, subgroup}
use Rattle.p3_field.specs.Laws.Tabulate.{get_or-tabulate, length-tabulate}
use Rattle.p3_field.specs.Poly.{DegreeBelow, tabulate, eval_poly_in}
use Rattle.p3_field.specs.Ring.{Ring}
use Rattle.air_core.specs.Laws.Lists.{all_tabulate}
use Rattle.air_core.specs.Shape.{Declaration, width_of}
use Rattle.plain_pcs.specs.Checks.{Opens}
use Rattle.plain_pcs.specs.Scheme.{PlainCommitmentData}
use Rattle.law_committed.specs.Committed.{CommittedTable, next_point}
use Rattle.law_committed.specs.Fields.{FieldsLaws}
use Rattle.law_committed.specs.Identity.{IsBoundedQuotient}
use Rattle.batch_config.specs.Domains.{chunk_domains, offered}
use Rattle.batch_config.specs.Setting.{Setting, Backend, masks}
use Rattle.batch_statement.specs.Proof.{OpenedWithLookups, ProofData}
use Rattle.batch_statement.specs.Statement.{HasEntryOf, Statement, WellFormed, entry_of, instance_count, within_entries}
use Rattle.batch_statement.specs.declared.preprocessed.PreprocessedInstanceMeta.{PreprocessedInstanceMeta}
use Rattle.verifier_shape.specs.ShapeChecks.{HaveItemForEachTable, permutation_width, table_checks}
use Rattle.batch_statement.specs.Words.{has_some, is_there, no_table, bits_at, declared_at, instance_at}
use Rattle.verifier_claims.specs.Claims.{all_chunk_domains, chunk_domains_at, claims, preprocessed_local_row, matrix_tables, preprocessed_next_row, permutation_claims}
use Rattle.verifier_batch.specs.OpeningChecks.{shape_bounds_of, claimed, log_chunks_of_table}
use Rattle.verifier_batch.specs.BatchChecks.{Accepted, drawn_of}
use Rattle.law_soundness.specs.Commitment.{polynomials_at}
use Rattle.law_soundness.specs.CommittedBatch.{chunk_count, columns_of, committed_quotient, committed_table_at, lookups_at, matrices_before, permutation_count, permutation_place, stated_table}
use Rattle.law_soundness.specs.PlainSetting.{IsPlain, plain_scheme}
use Rattle.law_soundness.specs.Laws.Bound.{Binds}
use Rattle.law_soundness.specs.Laws.Checked.{chunks_counted, chunks_wide, claims_opened, columns_counted, counts_hold, fixed_counted, no_preprocessed, permutation_there, publics_counted, rows_wide, shape_accepted, table_opened, terminals_counted}
use Rattle.batch_constraints.specs.Laws.Images.{all_of_map}
use Rattle.law_soundness.specs.Laws.Parts.{all_within, entry_names, fixed_has, no_columns, none_long, sums_have}
use Rattle.law_soundness.specs.Laws.Rounds.{after, chunk_bound, chunks_opened, fixed_bound, fixed_local_opened, fixed_next_opened, main_bound, main_local_opened, main_next_opened, opened_count, sums_bound, sums_local_opened, sums_next_opened}
use Rattle.law_soundness.specs.OpenedBatch.{AreCommittedValues, HasDeclaredColumns}

-- a permutation row of a table with lookups has values
row_has_values : (lookups dimension : ℕ) → 0 < lookups → 0 < dimension → 0 < permutation_width lookups dimension
row_has_values zero dimension some pos = absurd (omega (arith, some))
row_has_values (suc n) dimension some pos = let e : (suc n + 1) * dimension ≡ suc n * dimension + dimension = omega arith in omega (arith, pos, e)

-- the domains of a quotient's chunks where the backend doesn't mask: as many as chunks, each of the table's size
module _ {S F E C : Type 0} (c : Setting S F E C) (no_masks : masks c ≡ 0) where
  pub domains_counted : (bits chunks : ℕ) → length (chunk_domains c bits chunks) ≡ 2 ^ chunks
  domains_counted bits chunks =
      let whole = offered c.field.ring c.field.generator (subgroup c.field.ring bits) chunks in
      let part : ℕ → CosetData F = λ i. record { shift = point c.field.ring c.field.root whole i; log_size = whole.log_size - (chunks + masks c) } in
      let e : chunks + masks c ≡ chunks = omega (arith, no_masks) in
      length-tabulate (2 ^ (chunks + masks c)) part ∙ ap (λ m. 2 ^ m) e

  pub domains_sized : (bits chunks j : ℕ) (d : CosetData F) → j < 2 ^ chunks → (get_or (chunk_domains c bits chunks) j d).log_size + masks c ≡ bits
  domains_sized bits chunks j d below =
      let whole = offered c.field.ring c.field.generator (subgroup c.field.ring bits) chunks in
      let part : ℕ → CosetData F = λ i. record { shift = point c.field.ring c.field.root whole i; log_size = whole.log_size - (chunks + masks c) } in
      let e : chunks ≡ chunks + masks c = omega (arith, no_masks) in
      let within : j < 2 ^ (chunks + masks c) = subst (λ m. j < 2 ^ m) e below in
      let size : bits + chunks - (chunks + masks c) + masks c ≡ bits = omega (arith, no_masks) in
      ap (λ (x : CosetData F). x.log_size + masks c) (get_or-tabulate (2 ^ (chunks + masks c)) part j d within) ∙ size

module _ {S F E P R : Type 0} (c : Setting S F E (PlainCommitmentData F)) (b : Backend S F E (PlainCommitmentData F) P R) (log_blowup : ℕ) (s : Statement F (PlainCommitmentData F))
    (p : ProofData F E (PlainCommitmentData F) P) (inverse : E → E) (L : FieldsLaws c.field c.extension c.two_adicity inverse) (plain : IsPlain c b log_blowup)
    (binds : Binds (plain_scheme c log_blowup) c.extension.ring c.extension.embed) (formed : WellFormed (map (λ t. t.declaration) s.tables) s.common) (accepted : Accepted c b s p) where
  abbrev n : ℕ
  n = length s.tables

  abbrev declarations : List (Declaration F)
  declarations = map (λ t. t.declaration) s.tables

  abbrev zeta : E
  zeta = (drawn_of c s p).zeta

  abbrev ring : Ring F
  ring = c.field.ring

  as_many : length declarations ≡ n
  as_many = length-map s.tables (λ t. t.declaration)

  pub no_masks : masks c ≡ 0
  no_masks = ap (λ z. cond z 1 0) plain.unmasked

  opens : Opens (plain_scheme c log_blowup) c.extension.ring c.extension.embed (claims c (claimed c s p) zeta)
  opens = plain.opens (drawn_of c s p).opening (claims c (claimed c s p) zeta) p.opening_proof (claims_opened c b s p accepted)

  pub counts : HaveItemForEachTable s p
  counts = counts_hold R ring (shape_bounds_of c) s p (shape_accepted c b s p accepted)

  table_shape : (i : ℕ) → i < n
      → NoneFails (table_checks {R = R} i (stated_table s i).declaration (length (get_or s.publics i [])) (2 ^ (log_chunks_of_table c s p i + masks c)) c.extension.dimension (length (lookups_at s i))
      (instance_at p.instances i) (is_there (get_or p.lookup_terminals i None)))
  table_shape i below = table_opened R ring (shape_bounds_of c) s p (shape_accepted c b s p accepted) i below

  -- permutation rows have a value for each coefficient of each column
  pub local_wide : (i : ℕ) → i < n → length (instance_at p.instances i).permutation_local ≡ permutation_width (length (lookups_at s i)) c.extension.dimension
  local_wide i below = (rows_wide R i _ _ _ _ _ _ _ (table_shape i below)).0

  next_wide : (i : ℕ) → i < n → length (instance_at p.instances i).permutation_next ≡ permutation_width (length (lookups_at s i)) c.extension.dimension
  next_wide i below = (rows_wide R i _ _ _ _ _ _ _ (table_shape i below)).1

  -- the next point of a table
  next_is : (i : ℕ) → after c log_blowup (claimed c s p) zeta binds opens (bits_at p.degree_bits i) ≡ next_point c.field c.extension (committed_table_at c log_blowup s p i) zeta
  next_is i =
      let mul = c.extension.ring.mul in
      let k = bits_at p.degree_bits i in
      let e : k - masks c ≡ k = omega (arith, no_masks) in
      L.above.mul_comm zeta (c.extension.embed (c.field.root (k - masks c))) ∙ ap (λ m. mul (c.extension.embed (c.field.root m)) zeta) e

  -- the domains of the chunks of each table
  domains_are : (i : ℕ) → i < n → get_or (all_chunk_domains c (claimed c s p)) i [] ≡ chunk_domains c (bits_at p.degree_bits i) (log_chunks_of_table c s p i)
  domains_are i below =
      let listed = tabulate n (log_chunks_of_table c s p) in
      get_or-tabulate (length declarations) (chunk_domains_at ring c.field.root c.field.generator (masks c) p.degree_bits listed) i [] (omega (arith, below, as_many))
      ∙ ap (chunk_domains c (bits_at p.degree_bits i)) (get_or-tabulate n (log_chunks_of_table c s p) i 0 below)

  chunks_listed : (i : ℕ) → i < length declarations → length (get_or (all_chunk_domains c (claimed c s p)) i []) ≡ chunk_count c s p i
  chunks_listed i below = ap length (domains_are i (omega (arith, below, as_many))) ∙ domains_counted c no_masks (bits_at p.degree_bits i) (log_chunks_of_table c s p i)

  chunks_sized : (i : ℕ) → i < n → (j : ℕ) → j < chunk_count c s p i → (get_or (get_or (all_chunk_domains c (claimed c s p)) i []) j (subgroup ring 0)).log_size + masks c ≡ bits_at p.degree_bits i
  chunks_sized i below j within =
      ap (λ (ds : List (CosetData F)). (get_or ds j (subgroup ring 0)).log_size + masks c) (domains_are i below)
      ∙ domains_sized c no_masks (bits_at p.degree_bits i) (log_chunks_of_table c s p i) j (subgroup ring 0) within

  -- how many permutation matrices each table has
  sums_listed : (l : ℕ) → l < length declarations
      → length (permutation_claims ring zeta (after c log_blowup (claimed c s p) zeta binds opens) p.degree_bits p.instances l) ≡ permutation_count (length (lookups_at s l))
  sums_listed l below =
      let k = bits_at p.degree_bits l in
      let o = instance_at p.instances l in
      opened_count ring zeta (after c log_blowup (claimed c s p) zeta binds opens k) k (length (lookups_at s l)) c.extension.dimension o.permutation_local o.permutation_next L.vector.positive
      (local_wide l (omega (arith, below, as_many)))

  module _ (i : ℕ) (below : i < n) where
    abbrev o : OpenedWithLookups E
    o = instance_at p.instances i

    abbrev d : Declaration F
    d = (stated_table s i).declaration

    abbrev k : ℕ
    k = bits_at p.degree_bits i

    abbrev t : CommittedTable F E
    t = committed_table_at c log_blowup s p i

    listed : i < length declarations
    listed = omega (arith, below, as_many)

    pub declared_is : declared_at declarations i ≡ d
    declared_is = get_or-map-past (λ t. t.declaration) s.tables i no_table

    pub inside : i < instance_count declarations s.common
    inside =
        let e : min (length declarations) (length s.common.lookups) ≡ n = omega (arith, as_many, counts.lookups) in
        subst (λ m. i < within_entries s.common.preprocessed m) (sym e) (all_within s.common.preprocessed n i counts.entries below)

    entry_fits : HasEntryOf (width_of d.preprocessed) (entry_of s.common.preprocessed i)
    entry_fits =
        subst (λ (x : Declaration F). HasEntryOf (width_of x.preprocessed) (entry_of s.common.preprocessed i)) declared_is (formed.entries i inside (no_table {F = F}).declaration)

    absent : entry_of s.common.preprocessed i ≡ None → o.base.preprocessed ≡ None
    absent none = no_preprocessed R i _ _ _ _ _ _ _ (table_shape i below) (no_columns (width_of d.preprocessed) (entry_of s.common.preprocessed i) entry_fits none)

    named : (m : PreprocessedInstanceMeta) → entry_of s.common.preprocessed i ≡ Some m → slice_get (matrix_tables s.common.preprocessed) m.matrix_index ≡ Some i
    named m q = entry_names s.common.preprocessed i m (formed.places i inside) q

    has_lookups : 0 < length (lookups_at s i) → (commitment : PlainCommitmentData F) × (p.commitments.permutation ≡ Some commitment)
    has_lookups some = permutation_there R ring (shape_bounds_of c) s p (shape_accepted c b s p accepted) i (omega (arith, below, counts.lookups)) some

    has_sums : 0 < length (lookups_at s i) → 0 < length o.permutation_local
    has_sums some =
        let w = row_has_values (length (lookups_at s i)) c.extension.dimension some L.vector.positive in
        omega (arith, w, local_wide i below)

    no_sums : (row : List E) → length row ≡ permutation_width (length (lookups_at s i)) c.extension.dimension → length (lookups_at s i) ≡ 0 → row ≡ []
    no_sums row wide none = none_long row (wide ∙ ap (λ m. permutation_width m c.extension.dimension) none)

    -- what is opened of the table is what its committed polynomials have
    pub values_opened : AreCommittedValues c.field c.extension d t (committed_quotient c log_blowup s p i) zeta o
    values_opened =
        let q = claimed c s p in
        let sch = plain_scheme c log_blowup in
        let after_it = after c log_blowup q zeta binds opens k in
        let at = λ (x : E) (gs : List (List F)). map (λ (g : List F). eval_poly_in c.extension g x) gs in
        let count = λ (j : ℕ). permutation_count (length (lookups_at s j)) in
        record {
          main_local = main_local_opened c log_blowup q zeta binds opens i listed;
          main_next = λ declared.
              main_next_opened c log_blowup q zeta binds opens i listed (ap (λ (x : Declaration F). has_some x.main_next) declared_is ∙ declared) ∙ ap (λ x. at x t.main) (next_is i);
          preprocessed_local = fixed_has sch k (λ gs. preprocessed_local_row o.base.preprocessed ≡ at zeta gs) s.common.preprocessed i (λ none. ap preprocessed_local_row (absent none))
              (λ commitment m there entry. fixed_local_opened c log_blowup q zeta binds opens i listed commitment there m.matrix_index (named m entry));
          preprocessed_next = λ declared.
              fixed_has sch k (λ gs. preprocessed_next_row o.base.preprocessed ≡ at after_it gs) s.common.preprocessed i (λ none. ap preprocessed_next_row (absent none))
              (λ commitment m there entry.
              fixed_next_opened c log_blowup q zeta binds opens i listed commitment there m.matrix_index (named m entry)
              (ap (λ (x : Declaration F). has_some x.preprocessed_next) declared_is ∙ declared)) ∙ ap (λ x. at x t.preprocessed) (next_is i);
          permutation_local =
              sums_have sch k (λ gs. o.permutation_local ≡ at zeta gs) p.commitments.permutation (permutation_place c log_blowup s p i) (length (lookups_at s i))
              (no_sums o.permutation_local (local_wide i below)) has_lookups
              (λ commitment there some. sums_local_opened c log_blowup q zeta binds opens i listed commitment there count sums_listed (has_sums some));
          permutation_next =
              sums_have sch k (λ gs. o.permutation_next ≡ at after_it gs) p.commitments.permutation (permutation_place c log_blowup s p i) (length (lookups_at s i))
              (no_sums o.permutation_next (next_wide i below)) has_lookups
              (λ commitment there some. sums_next_opened c log_blowup q zeta binds opens i listed commitment there count sums_listed (has_sums some))
              ∙ ap (λ x. at x t.permutation) (next_is i);
          chunks =
              let unmasked : log_chunks_of_table c s p i + masks c ≡ log_chunks_of_table c s p i = omega (arith, no_masks) in
              chunks_opened c log_blowup q zeta binds opens i listed (chunk_count c s p) chunks_listed (chunks_sized i below)
              (chunks_counted R i _ _ _ _ _ _ _ (table_shape i below) ∙ ap (λ m. 2 ^ m) unmasked);
        }

    -- the table has the declared columns
    pub columns_declared : HasDeclaredColumns d (length (lookups_at s i)) c.extension.dimension t (committed_quotient c log_blowup s p i)
    columns_declared =
        let V = values_opened in
        let q = committed_quotient c log_blowup s p i in
        let at = λ (g : List F). eval_poly_in c.extension g zeta in
        let shape = table_shape i below in
        record {
          main = sym (ap length V.main_local ∙ length-map t.main at) ∙ columns_counted R i _ _ _ _ _ _ _ shape;
          preprocessed = sym (ap length V.preprocessed_local ∙ length-map t.preprocessed at) ∙ fixed_counted R i _ _ _ _ _ _ _ shape;
          permutation = sym (ap length V.permutation_local ∙ length-map t.permutation at) ∙ local_wide i below;
          public_values = publics_counted R i _ _ _ _ _ _ _ shape;
          terminals = terminals_counted R i _ _ _ _ _ _ _ shape (get_or p.lookup_terminals i None) refl;
          chunks = All-weaker (λ gs. length (map at gs) ≡ c.extension.dimension) (λ gs. length gs ≡ c.extension.dimension) (λ gs h. sym (length-map gs at) ∙ h) q.chunks
              (all_of_map (λ vs. length vs ≡ c.extension.dimension) (map at) q.chunks (map (map at) q.chunks) refl
              (subst (All (λ vs. length vs ≡ c.extension.dimension)) V.chunks (chunks_wide R i _ _ _ _ _ _ _ shape)));
        }

    -- the degrees of its polynomials are below its height
    pub columns_bounded : All (DegreeBelow ring (2 ^ k)) t.main
    columns_bounded = (main_bound c log_blowup (claimed c s p) zeta binds opens i listed).degrees_are

    pub fixed_bounded : All (DegreeBelow ring (2 ^ k)) t.preprocessed
    fixed_bounded =
        fixed_has (plain_scheme c log_blowup) k (All (DegreeBelow ring (2 ^ k))) s.common.preprocessed i (λ none. All-nil (DegreeBelow ring (2 ^ k)))
        (λ commitment m there entry. (fixed_bound c log_blowup (claimed c s p) zeta binds opens i listed commitment there m.matrix_index (named m entry)).degrees_are)

    pub sums_bounded : All (DegreeBelow ring (2 ^ k)) t.permutation
    sums_bounded =
        sums_have (plain_scheme c log_blowup) k (All (DegreeBelow ring (2 ^ k))) p.commitments.permutation (permutation_place c log_blowup s p i) (length (lookups_at s i))
        (λ none. All-nil (DegreeBelow ring (2 ^ k))) has_lookups
        (λ commitment there some. (sums_bound c log_blowup (claimed c s p) zeta binds opens i listed commitment there (λ j. permutation_count (length (lookups_at s j))) sums_listed (has_sums some)).degrees_are)

    pub quotient_bounded : IsBoundedQuotient c.field t (committed_quotient c log_blowup s p i)
    quotient_bounded =
        let q = claimed c s p in
        let ds = chunk_domains c k (log_chunks_of_table c s p i) in
        record {
          domains = All-from_get_or (λ x. x.log_size ≡ k) ds (subgroup ring 0) (λ j h.
              let long = domains_counted c no_masks k (log_chunks_of_table c s p i) in
              let size = domains_sized c no_masks k (log_chunks_of_table c s p i) j (subgroup ring 0) (omega (arith, h, long)) in
              omega (arith, size, no_masks));
          chunks = all_tabulate (λ gs. All (DegreeBelow ring (2 ^ k)) gs) (chunk_count c s p i)
              (λ j. columns_of c log_blowup s p i p.commitments.quotient_chunks (matrices_before (chunk_count c s p) i + j)) (λ j within.
              let D : ℕ → Type 0 =
              λ size. All (DegreeBelow ring (2 ^ size)) (polynomials_at (plain_scheme c log_blowup) size p.commitments.quotient_chunks (matrices_before (chunk_count c s p) i + j)) in
              subst D (chunks_sized i below j within) (chunk_bound c log_blowup q zeta binds opens i listed (chunk_count c s p) chunks_listed (chunks_sized i below) j within).degrees_are);
        }
