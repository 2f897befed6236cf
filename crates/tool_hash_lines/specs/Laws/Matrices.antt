-- The main matrices of an accepted proof of stated tables, and those of hash tables.
use Rattle.std.proofs.Common.{◌≡◌, ℕ, ◌+◌, ◌^◌, ◌<◌, ◌≤◌, min, List, Some, length, get_or, map, refl, sym, ◌∙◌, ap, subst, arith, inl, inr}
use Rattle.std.specs.Prelude.{slice_get}
use Rattle.std.proofs.lemmas.Bool.{cases_lt}
use Rattle.std.proofs.lemmas.List.{get_or-map, get_or_past, length-map}
use Rattle.std.proofs.lemmas.Option.{get_or_from_slice_get, slice_get_within}
use Rattle.p3_field.specs.BabyBear.{baby_bear_ring}
use Rattle.p3_field.specs.Laws.Tabulate.{length-tabulate}
use Rattle.p3_field.specs.Quartic.{of_baby_bear_value, quartic_ring}
use Rattle.p3_field.specs.declared.baby_bear.BabyBear.{BabyBear}
use Rattle.p3_field.specs.declared.quartic.QuarticExtension.{QuarticExtension}
use Rattle.p3_matrix.specs.Matrix.{column, height}
use Rattle.plain_pcs.specs.Checks.{Opens}
use Rattle.plain_pcs.specs.Extension.{columns, extended_domain, interpolant}
use Rattle.plain_pcs.specs.Scheme.{PlainCommitmentData}
use Rattle.law_committed.specs.Fields.{FieldsLaws, baby_bear_field, quartic_extension}
use Rattle.batch_config.specs.Setting.{Setting, Backend}
use Rattle.batch_statement.specs.Proof.{ProofData}
use Rattle.batch_statement.specs.Statement.{Statement, AirTable, WellFormed}
use Rattle.batch_statement.specs.Words.{no_table, bits_at}
use Rattle.verifier_claims.specs.Claims.{claims}
use Rattle.verifier_batch.specs.OpeningChecks.{claimed}
use Rattle.verifier_batch.specs.BatchChecks.{Accepted, drawn_of}
use Rattle.law_soundness.specs.Commitment.{matrix_at, no_matrix, polynomials_at}
use Rattle.law_soundness.specs.CommittedBatch.{stated_table}
use Rattle.law_soundness.specs.Laws.Bound.{Binds}
use Rattle.law_soundness.specs.Laws.Checked.{claims_opened}
use Rattle.law_soundness.specs.Laws.Opened.{columns_declared, counts}
use Rattle.law_soundness.specs.Laws.Rounds.{main_bound}
use Rattle.law_soundness.specs.PlainSetting.{IsPlain, plain_scheme}
use Rattle.transcript_version.specs.declared.TranscriptVersion.{TranscriptVersion}
use Rattle.tool_proof_text.specs.ProofText.{ToolProofData}
use Rattle.tool_statement.specs.Config.{tool_backend, tool_scheme, tool_setting}
use Rattle.tool_statement.specs.StatedTables.{HaveStatedHeights, log_height_of, source_of_table, air_table_of, tool_common, tool_statement}
use Rattle.tool_statement.specs.declared.table.TableStatement.{TableStatement}
use Rattle.tool_statement.specs.declared.table.TableStatement.TheVariants.{Swap, Wheel, Take, Give, Hash}
use Rattle.tool_hash_lines.specs.PrintedRows.{HasHashMatrices, HasMainMatrix}

-- a matrix has as many polynomials as columns
pub length-polynomials_at : (k : ℕ) (c : PlainCommitmentData BabyBear) (i : ℕ) → length (polynomials_at tool_scheme k c i) ≡ (matrix_at c i).width
length-polynomials_at k c i =
    length-map (columns baby_bear_ring.zero (matrix_at c i)) (interpolant tool_scheme.field (extended_domain tool_scheme k)) ∙ length-tabulate (matrix_at c i).width (column baby_bear_ring.zero (matrix_at c i))

-- a matrix with columns is there
is_there : {F : Type 0} (c : PlainCommitmentData F) (i w : ℕ) → (matrix_at c i).width ≡ w → 0 < w → i < length c.matrices
is_there c i w e pos = elim (cases_lt i (length c.matrices)) [
  | inl h ↦ h
  | inr h ↦
      let past : (matrix_at c i).width ≡ 0 = ap (λ m. m.width) (get_or_past c.matrices i no_matrix h) in
      absurd (omega (arith, past, e, pos))
]

module _ {S F E P R : Type 0} (c : Setting S F E (PlainCommitmentData F)) (b : Backend S F E (PlainCommitmentData F) P R) (log_blowup : ℕ) (s : Statement F (PlainCommitmentData F))
    (p : ProofData F E (PlainCommitmentData F) P) (inverse : E → E) (L : FieldsLaws c.field c.extension c.two_adicity inverse) (plain : IsPlain c b log_blowup)
    (binds : Binds (plain_scheme c log_blowup) c.extension.ring c.extension.embed) (formed : WellFormed (map (λ t. t.declaration) s.tables) s.common) (accepted : Accepted c b s p)
    (i : ℕ) (below : i < length s.tables) where
  abbrev zeta : E
  zeta = (drawn_of c s p).zeta

  opens : Opens (plain_scheme c log_blowup) c.extension.ring c.extension.embed (claims c (claimed c s p) zeta)
  opens = plain.opens (drawn_of c s p).opening (claims c (claimed c s p) zeta) p.opening_proof (claims_opened c b s p accepted)

  listed : i < length (map (λ t. t.declaration) s.tables)
  listed = subst (λ n. i < n) (sym (length-map s.tables (λ t. t.declaration))) below

  -- table i's matrix has a row for each point of its extended domain
  pub main_high : height (matrix_at p.commitments.main i) ≡ 2 ^ (bits_at p.degree_bits i + log_blowup)
  main_high = (main_bound c log_blowup (claimed c s p) zeta binds opens i listed).dimensions_are.height_is

  pub main_fits : bits_at p.degree_bits i + log_blowup ≤ c.two_adicity
  main_fits = (main_bound c log_blowup (claimed c s p) zeta binds opens i listed).dimensions_are.fits

  -- and the declared columns
  pub main_wide : (matrix_at p.commitments.main i).width ≡ (stated_table s i).declaration.width
  main_wide =
      let m = matrix_at p.commitments.main i in
      let k = bits_at p.degree_bits i in
      let made = interpolant c.field (extended_domain (plain_scheme c log_blowup) k) in
      sym (length-map (columns c.field.ring.zero m) made ∙ length-tabulate m.width (column c.field.ring.zero m))
      ∙ (columns_declared c b log_blowup s p inverse L plain binds formed accepted i below).main

-- the program's configuration is over the plain scheme
pub plain_tool : (version : TranscriptVersion) → IsPlain (tool_setting version) tool_backend 1
unfolding tool_setting tool_backend
plain_tool version = record { unmasked = refl; opens = λ state claims proof o. o }

pub laws_of_tool : (version : TranscriptVersion) (inverse : QuarticExtension → QuarticExtension) → FieldsLaws baby_bear_field quartic_extension 27 inverse → FieldsLaws (tool_setting version).field (tool_setting version).extension (tool_setting version).two_adicity inverse
unfolding tool_setting
laws_of_tool version inverse L = L

pub binds_of_tool : (version : TranscriptVersion) → Binds tool_scheme quartic_ring of_baby_bear_value → Binds (plain_scheme (tool_setting version) 1) (tool_setting version).extension.ring (tool_setting version).extension.embed
unfolding tool_setting
binds_of_tool version B = B

-- each table has columns
some_columns : (t : TableStatement) → 0 < (source_of_table t).declaration.width
some_columns (Swap k a b x) = omega arith
some_columns (Wheel k) = omega arith
some_columns (Take k) = omega arith
some_columns (Give k) = omega arith
some_columns (Hash k) = let h : 0 < 9168 = omega arith in h

two_adicity_is : (version : TranscriptVersion) → (tool_setting version).two_adicity ≡ 27
unfolding tool_setting
two_adicity_is version = refl

module _ (version : TranscriptVersion) (tables : List TableStatement) (p : ToolProofData) (inverse : QuarticExtension → QuarticExtension) (L : FieldsLaws baby_bear_field quartic_extension 27 inverse)
    (binds : Binds tool_scheme quartic_ring of_baby_bear_value) (formed : WellFormed (map (λ (t : AirTable BabyBear). t.declaration) (map air_table_of tables)) (tool_common tables))
    (accepted : Accepted (tool_setting version) tool_backend (tool_statement tables) p) (bits : HaveStatedHeights tables p.degree_bits) where
  module _ (i : ℕ) (t : TableStatement) (at : slice_get tables i ≡ Some t) where
    within : i < length tables
    within = slice_get_within tables i t at

    here : get_or tables i (Take 0) ≡ t
    here = get_or_from_slice_get tables i t (Take 0) at

    below : i < length (map air_table_of tables)
    below = subst (λ n. i < n) (sym (length-map tables air_table_of)) within

    -- its degree bits are those that are stated
    pub stated_degree : bits_at p.degree_bits i ≡ log_height_of t
    stated_degree =
        let many : length p.degree_bits ≡ length tables =
        (counts (tool_setting version) tool_backend 1 (tool_statement tables) p inverse (laws_of_tool version inverse L) (plain_tool version) (binds_of_tool version binds) formed accepted).degree_bits ∙ length-map tables air_table_of in
        let inside : i < min (length tables) (length p.degree_bits) = omega (arith, within, many) in
        sym (bits i inside) ∙ (get_or-map log_height_of tables i (Take 0) 0 within ∙ ap log_height_of here)

    wide : (matrix_at p.commitments.main i).width ≡ (source_of_table t).declaration.width
    wide =
        main_wide (tool_setting version) tool_backend 1 (tool_statement tables) p inverse (laws_of_tool version inverse L) (plain_tool version) (binds_of_tool version binds) formed accepted i below
        ∙ (ap (λ (t : AirTable BabyBear). t.declaration.width) (get_or-map air_table_of tables i (Take 0) no_table within) ∙ ap (λ (t : TableStatement). (source_of_table t).declaration.width) here)

    high : height (matrix_at p.commitments.main i) ≡ 2 ^ (log_height_of t + 1)
    high =
        main_high (tool_setting version) tool_backend 1 (tool_statement tables) p inverse (laws_of_tool version inverse L) (plain_tool version) (binds_of_tool version binds) formed accepted i below
        ∙ ap (λ n. 2 ^ (n + 1)) stated_degree

    fits : log_height_of t + 1 ≤ 27
    fits =
        let h = main_fits (tool_setting version) tool_backend 1 (tool_statement tables) p inverse (laws_of_tool version inverse L) (plain_tool version) (binds_of_tool version binds) formed accepted i below in
        omega (arith, h, stated_degree, two_adicity_is version)

    -- it has its matrix
    pub main_matrix : HasMainMatrix p i (log_height_of t) (source_of_table t).declaration.width
    main_matrix = record {
      exists = is_there p.commitments.main i (source_of_table t).declaration.width wide (some_columns t);
      degree_is = stated_degree;
      fits = fits;
      height_is = high;
      width_is = wide;
    }

  -- the degree bits of a hash table
  pub degree : (i k : ℕ) → slice_get tables i ≡ Some (Hash k) → bits_at p.degree_bits i ≡ k
  degree i k at = stated_degree i (Hash k) at

  -- each hash table has its matrix
  pub hash_matrices : HasHashMatrices tables p
  hash_matrices i k at = main_matrix i (Hash k) at
