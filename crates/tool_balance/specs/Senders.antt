-- What one table of a proof file sends (not in Plonky3).
use Rattle.std.specs.Prelude.{ℕ, List, []}
use Rattle.std.specs.Prelude.{slice_index_or as get_or}
use Rattle.p3_field.specs.declared.baby_bear.BabyBear.{BabyBear}
use Rattle.p3_lookup.specs.Bus.{bus_in}
use Rattle.p3_lookup.specs.Messages.{Sender}
use Rattle.law_balance.specs.CommittedRows.{committed_sender}
use Rattle.law_soundness.specs.CommittedBatch.{committed_table_at}
use Rattle.transcript_version.specs.declared.TranscriptVersion.{TranscriptVersion}
use Rattle.tool_hash_lines.specs.PrintedRows.{HasMainMatrix}
use Rattle.tool_proof_text.specs.ProofText.{ToolProofData}
use Rattle.tool_statement.specs.Config.{tool_setting}
use Rattle.tool_statement.specs.StatedTables.{log_height_of, source_of_table, tool_common, tool_statement}
use Rattle.tool_statement.specs.declared.table.TableStatement.{TableStatement}
use Rattle.tool_statement.specs.declared.table.TableStatement.TheVariants.{Take}

-- table i as far as it sends, on the rows that the proof commits to
abbrev pub sender_at : TranscriptVersion → List TableStatement → ToolProofData → ℕ → Sender BabyBear
sender_at version tables p i =
    committed_sender (tool_setting version).field (committed_table_at (tool_setting version) 1 (tool_statement tables) p i) (get_or (tool_common tables).lookups i []) (bus_in (tool_common tables).lookups i)

-- the proof's main commitment has its matrix; no place after the last is read
abbrev pub HasMatrixOf : List TableStatement → ToolProofData → ℕ → Type 0
HasMatrixOf tables p i = HasMainMatrix p i (log_height_of (get_or tables i (Take 0))) (source_of_table (get_or tables i (Take 0))).declaration.width
