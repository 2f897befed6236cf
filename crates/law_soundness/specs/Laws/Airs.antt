-- The laws of a statement on the tables of AIRs, as a verifier is given it.
use Rattle.std.proofs.Common.{◌≡◌, ℕ, ◌<◌, ◌≤◌, ◌⊎◌, List, [], length, get_or, map, sym, ◌∙◌, subst}
use Rattle.std.specs.Prelude.{All, Contains, sum}
use Rattle.std.proofs.lemmas.List.{length-map}
use Rattle.std.proofs.lemmas.List.Elements.{All-map}
use Rattle.std.proofs.lemmas.Simd.{map-map}
use Rattle.air_core.specs.Shape.{Declaration, ReadsDeclared, declared_shape}
use Rattle.air_core.specs.Tree.{Tree}
use Rattle.plain_pcs.specs.Scheme.{PlainCommitmentData}
use Rattle.air_tables.specs.Swap.{swap_trees}
use Rattle.law_committed.specs.Batch.{AllHold, DividedTable, IsUnluckyAlphaOfBatch, IsUnluckyZetaOfBatch}
use Rattle.law_committed.specs.Committed.{Holds}
use Rattle.law_committed.specs.Fields.{FieldsLaws}
use Rattle.law_committed.specs.Identity.{chunk_count_of}
use Rattle.law_committed.specs.Unlucky.{AreDistinct, IsUnluckyAlpha, IsUnluckyAlphaAt, IsUnluckyZeta}
use Rattle.batch_config.specs.Setting.{Setting, Backend}
use Rattle.batch_statement.specs.Proof.{ProofData}
use Rattle.batch_statement.specs.Statement.{Statement, AirTable, WellFormed, WrittenCommon, read_common, tables_of, statement_with}
use Rattle.batch_statement.specs.Words.{bits_at}
use Rattle.verifier_batch.specs.BatchChecks.{Accepted, drawn_of}
use Rattle.law_soundness.specs.CommittedBatch.{ReadDeclared, chunk_count, committed_batch, committed_quotient, committed_table_at}
use Rattle.law_soundness.specs.PlainSetting.{IsPlain, plain_scheme}
use Rattle.law_soundness.specs.Laws.Accepted.{batch_holds, batch_low, heights_fit}
use Rattle.law_soundness.specs.Laws.Bound.{Binds}
use Rattle.law_soundness.specs.Laws.Counts.{few_contained_zetas, few_row_alphas, few_table_alphas}
use Rattle.law_soundness.specs.Laws.Few.{alphas_of_any, chunks_of_any, zetas_of_any}
use Rattle.law_soundness.specs.Laws.Opened.{columns_declared, values_opened}
use Rattle.law_soundness.specs.Laws.SwapTables.{first_of, own_hold, own_trees, swaps_end}
use Rattle.law_soundness.specs.OpenedBatch.{AllCommittedValues, AllHaveColumns}
use Rattle.law_soundness.specs.Swapped.{EndsSwapped, swap_publics}
use Rattle.law_soundness.specs.UnluckyCounts.{HasLowDegrees, most_alphas, most_zetas}

module _ {A F C : Type 0} (declaration : A → Declaration F) (trees : A → List (Tree F)) (airs : List A) (publics : List (List F)) (common : WrittenCommon F C) where
  abbrev pub about : Statement F C
  about = statement_with (tables_of declaration trees airs) publics common

  -- common data that is well-formed for the AIRs is so for their tables
  pub formed_tables : WellFormed (map declaration airs) (read_common common) → WellFormed (map (λ t. t.declaration) about.tables) about.common
  formed_tables h =
      let same = map-map (λ (t : AirTable F). t.declaration) (λ a. record { declaration = declaration a; trees = trees a }) airs in
      subst (λ ds. WellFormed ds (read_common common)) (sym same) h

  -- their constraints read declared cells
  pub declared_tables : ((a : A) → All (ReadsDeclared (declared_shape (declaration a))) (trees a)) → ReadDeclared about
  declared_tables h =
      All-map (λ (t : AirTable F). All (ReadsDeclared (declared_shape t.declaration)) t.trees) (λ a. record { declaration = declaration a; trees = trees a }) airs
      (λ k a l. h _)

  pub as_many : length about.tables ≡ length airs
  as_many = length-map {B = AirTable F} airs (λ a. record { declaration = declaration a; trees = trees a })

module _ {S A F E P R : Type 0} (c : Setting S F E (PlainCommitmentData F)) (b : Backend S F E (PlainCommitmentData F) P R) (log_blowup : ℕ) (declaration : A → Declaration F)
    (trees : A → List (Tree F)) (airs : List A) (publics : List (List F)) (common : WrittenCommon F (PlainCommitmentData F)) (p : ProofData F E (PlainCommitmentData F) P) (inverse : E → E)
    (L : FieldsLaws c.field c.extension c.two_adicity inverse) (plain : IsPlain c b log_blowup) (binds : Binds (plain_scheme c log_blowup) c.extension.ring c.extension.embed)
    (formed : WellFormed (map declaration airs) (read_common common)) (accepted : Accepted c b (about declaration trees airs publics common) p) where
  abbrev s : Statement F (PlainCommitmentData F)
  s = about declaration trees airs publics common

  abbrev batch : List (DividedTable F E)
  batch = committed_batch c log_blowup s p

  abbrev alpha : E
  alpha = (drawn_of c s p).alpha

  abbrev zeta : E
  zeta = (drawn_of c s p).zeta

  -- what is opened
  pub airs_opened : AllCommittedValues c log_blowup s p zeta
  airs_opened = λ i below. values_opened c b log_blowup s p inverse L plain binds (formed_tables declaration trees airs publics common formed) accepted i below

  -- columns
  pub airs_columns : AllHaveColumns c log_blowup s p
  airs_columns = λ i below. columns_declared c b log_blowup s p inverse L plain binds (formed_tables declaration trees airs publics common formed) accepted i below

  -- degrees
  pub airs_low : All (HasLowDegrees c.field) batch
  airs_low = batch_low c b log_blowup s p inverse L plain binds (formed_tables declaration trees airs publics common formed) accepted

  airs_fit : All (λ (t : DividedTable F E). t.table.log_height ≤ c.two_adicity) batch
  airs_fit = heights_fit c b log_blowup s p inverse L plain binds (formed_tables declaration trees airs publics common formed) accepted

  -- counts
  pub airs_table_alphas : (t : DividedTable F E) (alphas : List E) → AreDistinct c.extension.ring.zero alphas → All (IsUnluckyAlpha c.field c.extension t.table t.trees) alphas → length alphas ≤ most_alphas t
  airs_table_alphas t alphas distinct unlucky = few_table_alphas c.field c.extension c.two_adicity inverse L t alphas distinct unlucky

  pub airs_row_alphas : (t : DividedTable F E) (row : ℕ) (alphas : List E) → 0 < length t.trees → AreDistinct c.extension.ring.zero alphas
      → All (IsUnluckyAlphaAt c.field c.extension t.table t.trees row) alphas → length alphas < length t.trees
  airs_row_alphas t row alphas some distinct unlucky = few_row_alphas c.field c.extension c.two_adicity inverse L t row alphas some distinct unlucky

  pub airs_table_zetas : (t : DividedTable F E) (alpha : E) (zetas : List E) → Contains batch t → AreDistinct c.extension.ring.zero zetas
      → All (IsUnluckyZeta c.field c.extension t.table t.trees t.quotient alpha) zetas → length zetas ≤ most_zetas t
  airs_table_zetas t alpha zetas among distinct unlucky = few_contained_zetas c.field c.extension c.two_adicity inverse L batch airs_fit airs_low t alpha zetas among distinct unlucky

  pub airs_chunks : (i : ℕ) → chunk_count_of (committed_quotient c log_blowup s p i) ≡ chunk_count c s p i
  airs_chunks i = chunks_of_any c log_blowup s p i plain.unmasked

  pub airs_alphas : (alphas : List E) → AreDistinct c.extension.ring.zero alphas → All (IsUnluckyAlphaOfBatch c.field c.extension batch) alphas → length alphas ≤ sum (map most_alphas batch)
  airs_alphas alphas distinct unlucky = alphas_of_any c log_blowup s p inverse L alphas distinct unlucky

  pub airs_zetas : (alpha : E) (zetas : List E) → AreDistinct c.extension.ring.zero zetas → All (IsUnluckyZetaOfBatch c.field c.extension batch alpha) zetas → length zetas ≤ sum (map most_zetas batch)
  airs_zetas alpha zetas distinct unlucky = zetas_of_any c log_blowup s p inverse L alpha zetas airs_fit airs_low distinct unlucky

  -- a table with the constraints of its AIR alone
  pub airs_own : AllHold c.field c.extension batch → (i : ℕ) (air : A) → i < length airs → Holds c.field c.extension (committed_table_at c log_blowup s p i) (trees (get_or airs i air))
  airs_own holds i air below = own_hold c log_blowup declaration trees airs publics common p holds i air below

  module _ (reads : (a : A) → All (ReadsDeclared (declared_shape (declaration a))) (trees a)) where
    -- all constraints
    pub airs_hold : AllHold c.field c.extension batch ⊎ (IsUnluckyAlphaOfBatch c.field c.extension batch alpha ⊎ IsUnluckyZetaOfBatch c.field c.extension batch alpha zeta)
    airs_hold =
        batch_holds c b log_blowup s p inverse L plain binds (formed_tables declaration trees airs publics common formed) accepted (declared_tables declaration trees airs publics common reads)

    -- swap tables
    pub airs_swaps : (IsUnluckyAlphaOfBatch c.field c.extension batch alpha → ⊥) → (IsUnluckyZetaOfBatch c.field c.extension batch alpha zeta → ⊥) → (i : ℕ) (air : A) (a d x : F) → i < length airs
        → trees (get_or airs i air) ≡ swap_trees → get_or publics i [] ≡ swap_publics a d x → EndsSwapped (bits_at p.degree_bits i) a d x
    airs_swaps no_alpha no_zeta i air a d x below are statement_with =
        swaps_end c log_blowup s p inverse L (first_of airs_hold no_alpha no_zeta) airs_fit i a d x (subst (λ m. i < m) (sym (as_many declaration trees airs publics common)) below)
        (own_trees declaration trees airs publics common i air below ∙ are) statement_with
