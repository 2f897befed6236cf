-- The rows of a committed table of compressions.
use Rattle.std.proofs.Common.{◌≡◌, ℕ, ◌^◌, ◌<◌, List, length, get_or, map, sym, ◌∙◌, ap, subst}
use Rattle.std.specs.Prelude.{All}
use Rattle.std.proofs.lemmas.List.{get_or-map, length-map}
use Rattle.air_core.specs.Shape.{Declaration, ReadsDeclared, declared_shape}
use Rattle.air_core.specs.Tree.{Tree}
use Rattle.blake3_compress.specs.Compress.{Input}
use Rattle.blake3_compress.specs.TraceRow.{AreWords, trace_row}
use Rattle.blake3_prime.specs.Laws.Reads.{reads_all}
use Rattle.blake3_prime.specs.Meanings.{RowMeans}
use Rattle.blake3_prime.specs.Trees.{blake3_trees}
use Rattle.p3_field.specs.Field.{TwoAdic, Extension}
use Rattle.plain_pcs.specs.Scheme.{PlainCommitmentData}
use Rattle.law_committed.specs.Committed.{CommittedTable, Holds, row_count_of}
use Rattle.law_committed.specs.Fields.{FieldsLaws}
use Rattle.batch_config.specs.Setting.{Setting, Backend}
use Rattle.batch_statement.specs.Proof.{ProofData}
use Rattle.batch_statement.specs.Statement.{Statement, AirTable, WellFormed, WrittenCommon, read_common}
use Rattle.batch_statement.specs.Words.{no_table, bits_at}
use Rattle.verifier_batch.specs.BatchChecks.{Accepted}
use Rattle.law_committed.specs.BaseRows.{IsMainHere, ReadsMainHere, main_row}
use Rattle.law_soundness.specs.CommittedBatch.{committed_table_at}
use Rattle.law_soundness.specs.Laws.Airs.{about, airs_columns, airs_hold, airs_own}
use Rattle.law_committed.specs.Laws.BaseRows.{rows_mean}
use Rattle.law_soundness.specs.Laws.Bound.{Binds}
use Rattle.law_soundness.specs.Laws.SwapTables.{first_of}
use Rattle.law_soundness.specs.Meaning.{IsAlphaUnlucky, IsZetaUnlucky}
use Rattle.law_soundness.specs.PlainSetting.{IsPlain, plain_scheme}

-- the constraints read this row's main cells alone
constraints_here : {F : Type 0} (f : TwoAdic F) → All ReadsMainHere (blake3_trees f.ring)
constraints_here f = reads_all f.ring IsMainHere (λ _. ⊥) (λ k lt. tt)

-- where a table of 9168 columns holds with these constraints, each of its rows is that of one compression
pub row_is_compression : {F E : Type 0} (f : TwoAdic F) (e : Extension F E) (top : ℕ) (inverse : E → E) (L : FieldsLaws f e top inverse) (t : CommittedTable F E) → RowMeans f.ring
    → length t.main ≡ 9168 → Holds f e t (blake3_trees f.ring) → (i : ℕ) → i < row_count_of t → (x : Input) × AreWords x × (main_row f t i ≡ trace_row f.ring x)
row_is_compression f e top inverse L t means wide holds i below =
    rows_mean f e top inverse L t (blake3_trees f.ring) (λ cells. (x : Input) × AreWords x × (cells ≡ trace_row f.ring x)) 9168 (λ row w vanish. (means row w).0 vanish) (constraints_here f) wide holds i below

module _ {S A F E P R : Type 0} (c : Setting S F E (PlainCommitmentData F)) (b : Backend S F E (PlainCommitmentData F) P R) (log_blowup : ℕ) (declaration : A → Declaration F)
    (trees : A → List (Tree F)) (airs : List A) (publics : List (List F)) (common : WrittenCommon F (PlainCommitmentData F)) (p : ProofData F E (PlainCommitmentData F) P) (inverse : E → E)
    (L : FieldsLaws c.field c.extension c.two_adicity inverse) (plain : IsPlain c b log_blowup) (binds : Binds (plain_scheme c log_blowup) c.extension.ring c.extension.embed)
    (formed : WellFormed (map declaration airs) (read_common common)) (accepted : Accepted c b (about declaration trees airs publics common) p)
    (reads : (a : A) → All (ReadsDeclared (declared_shape (declaration a))) (trees a)) (means : RowMeans c.field.ring) where
  abbrev s : Statement F (PlainCommitmentData F)
  s = about declaration trees airs publics common

  pub hashes_are_compressions : (IsAlphaUnlucky c log_blowup s p → ⊥) → (IsZetaUnlucky c log_blowup s p → ⊥) → (i row : ℕ) (air : A) → i < length airs
      → trees (get_or airs i air) ≡ blake3_trees c.field.ring → (declaration (get_or airs i air)).width ≡ 9168 → row < 2 ^ bits_at p.degree_bits i
      → (x : Input) × AreWords x × (main_row c.field (committed_table_at c log_blowup s p i) row ≡ trace_row c.field.ring x)
  hashes_are_compressions no_alpha no_zeta i row air below are wide within =
      let t = committed_table_at c log_blowup s p i in
      let made : A → AirTable F = λ a. record { declaration = declaration a; trees = trees a } in
      let holds = first_of (airs_hold c b log_blowup declaration trees airs publics common p inverse L plain binds formed accepted reads) no_alpha no_zeta in
      let own = airs_own c b log_blowup declaration trees airs publics common p inverse L plain binds formed accepted holds i air below in
      let columns =
      airs_columns c b log_blowup declaration trees airs publics common p inverse L plain binds formed accepted i (subst (λ n. i < n) (sym (length-map airs made)) below) in
      let declared = ap (λ (x : AirTable F). x.declaration.width) (get_or-map made airs i air (no_table {F = F}) below) in
      row_is_compression c.field c.extension c.two_adicity inverse L t means (columns.main ∙ (declared ∙ wide)) (subst (Holds c.field c.extension t) are own) row within
