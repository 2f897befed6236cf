-- What is stated of two lists without public values is the tables' statement; and what the rows of the table of bits are.
use Rattle.std.proofs.Common.{◌≡◌, ℕ, ◌^◌, ◌<◌, List, [], ◌∷◌, length, sym, subst}
use Rattle.p3_field.specs.BabyBear.{baby_bear_ring}
use Rattle.p3_field.specs.Quartic.{quartic_inv}
use Rattle.p3_field.specs.declared.baby_bear.BabyBear.{BabyBear}
use Rattle.p3_field.specs.declared.quartic.QuarticExtension.{QuarticExtension}
use Rattle.plain_pcs.specs.Scheme.{PlainCommitmentData}
use Rattle.batch_statement.specs.Statement.{Statement}
use Rattle.batch_statement.specs.Words.{bits_at}
use Rattle.law_committed.specs.BaseRows.{IsMainHere, main_row}
use Rattle.law_committed.specs.Committed.{CommittedTable, Holds, row_count_of}
use Rattle.law_committed.specs.Fields.{FieldsLaws, baby_bear_field, quartic_extension}
use Rattle.law_committed.specs.Laws.BaseRows.{rows_mean}
use Rattle.law_soundness.specs.CommittedBatch.{committed_table_at}
use Rattle.law_soundness.specs.Laws.SwapTables.{first_of}
use Rattle.law_soundness.specs.Meaning.{CommittedTablesHold, HoldUnlessUnlucky}
use Rattle.tool_airs.specs.Airs.{AirsProof, airs_statement}
use Rattle.transcript_version.specs.declared.TranscriptVersion.TheVariants.{V2}
use Rattle.tool_statement.specs.Config.{tool_setting}
use Rattle.example_air.specs.Bytes.{bits_row, byte_row_trees, example_declaration, example_interactions, example_trees}
use Rattle.example_air.specs.Laws.Reads.{reads_bits}
use Rattle.example_air.specs.Meanings.{ByteRowMeans}
use Rattle.example_air.specs.Statement.{RowsAreBytes, example_statement}
use Rattle.example_air.specs.declared.air.ExampleAir.TheVariants.{Bits, Bytes}

-- what holds of the statement with these public values, of which there are none
pub stated : (log_rows : ℕ) (a b : List BabyBear) → a ≡ [] → b ≡ [] → (P : Statement BabyBear (PlainCommitmentData BabyBear) → Type 0)
    → P (airs_statement (example_declaration baby_bear_ring) (example_trees baby_bear_ring) (example_interactions baby_bear_ring) (Bits ∷ Bytes ∷ []) (log_rows ∷ 8 ∷ []) (a ∷ b ∷ []))
    → P (example_statement log_rows)
stated log_rows a b e f P h =
    subst (λ (ps : List (List BabyBear)). P (airs_statement (example_declaration baby_bear_ring) (example_trees baby_bear_ring) (example_interactions baby_bear_ring) (Bits ∷ Bytes ∷ []) (log_rows ∷ 8 ∷ []) ps))
    (λ i. e i ∷ f i ∷ []) h

-- where a table of nine columns holds with the constraints of bits, each of its rows is that of a byte
row_is_byte : FieldsLaws baby_bear_field quartic_extension 27 quartic_inv → ByteRowMeans baby_bear_ring → (t : CommittedTable BabyBear QuarticExtension) → length t.main ≡ 9 → Holds baby_bear_field quartic_extension t (byte_row_trees baby_bear_ring)
    → (i : ℕ) → i < row_count_of t → (byte : ℕ) × (byte < 256) × (main_row baby_bear_field t i ≡ bits_row baby_bear_ring byte)
row_is_byte L means t wide holds i below =
    rows_mean baby_bear_field quartic_extension 27 quartic_inv L t (byte_row_trees baby_bear_ring) (λ cells. (byte : ℕ) × (byte < 256) × (cells ≡ bits_row baby_bear_ring byte)) 9 (λ row w vanish. (means row w).0 vanish)
    (reads_bits baby_bear_ring IsMainHere (λ _. ⊥) (λ k lt. tt)) wide holds i below

pub rows_are : FieldsLaws baby_bear_field quartic_extension 27 quartic_inv → ByteRowMeans baby_bear_ring → (log_rows : ℕ) (p : AirsProof) → bits_at p.degree_bits 0 ≡ log_rows
    → HoldUnlessUnlucky (tool_setting V2) 1 (example_statement log_rows) p
    → (CommittedTablesHold (tool_setting V2) 1 (example_statement log_rows) p → Holds baby_bear_field quartic_extension (committed_table_at (tool_setting V2) 1 (example_statement log_rows) p 0) (byte_row_trees baby_bear_ring))
    → length (committed_table_at (tool_setting V2) 1 (example_statement log_rows) p 0).main ≡ 9 → RowsAreBytes log_rows p
rows_are L means log_rows p high holds own wide no_alpha no_zeta i below =
    row_is_byte L means (committed_table_at (tool_setting V2) 1 (example_statement log_rows) p 0) wide (own (first_of holds no_alpha no_zeta)) i (subst (λ k. i < 2 ^ k) (sym high) below)
