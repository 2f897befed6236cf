-- Proof files: the numbers of a file, and its limits.
use Rattle.std.specs.Prelude.{◌≡◌, ◌==◌, if◌then◌else◌, ℕ, List, [], ◌∷◌, ◌++◌}
use Rattle.std.specs.Prelude.{slice_index_or as get_or}
use Rattle.p3_field.specs.BabyBear.{baby_bear_ring}
use Rattle.p3_field.specs.declared.baby_bear.BabyBear.{BabyBear}
use Rattle.tool_lines.specs.Texts.{Between, ListWithin, list_numbers}
use Rattle.transcript_version.specs.declared.TranscriptVersion.{TranscriptVersion}
use Rattle.transcript_version.specs.declared.TranscriptVersion.TheVariants.{V1, V2}
use Rattle.tool_statement.specs.StatedTables.{TableWithin}
use Rattle.tool_statement.specs.declared.table.TableStatement.{TableStatement}
use Rattle.tool_statement.specs.declared.table.TableStatement.TheVariants.{Swap, Wheel, Take, Give, Hash}
use Rattle.tool_proof_text.specs.ProofText.{ProofWithin, ToolProofData, proof_numbers}

-- a table's statement: its kind, the logarithm of its rows, and a swap table's public values
abbrev pub statement_numbers : TableStatement → List ℕ
statement_numbers (Swap k a b x) = 1 ∷ k ∷ a.value ∷ b.value ∷ x.value ∷ []
statement_numbers (Wheel k) = 2 ∷ k ∷ []
statement_numbers (Take k) = 3 ∷ k ∷ []
statement_numbers (Give k) = 4 ∷ k ∷ []
statement_numbers (Hash k) = 5 ∷ k ∷ []

-- by the kind: the least and the greatest logarithm of the rows, the number of public values, and the statement with this logarithm and these
-- values
abbrev pub least_log_rows : ℕ → ℕ
least_log_rows kind = if kind == 2 then 1 else 0

abbrev pub most_log_rows : ℕ → ℕ
most_log_rows kind = if kind == 5 then 3 else 10

abbrev pub public_count : ℕ → ℕ
public_count kind = if kind == 1 then 3 else 0

abbrev pub table_statement : (kind k : ℕ) → List BabyBear → TableStatement
table_statement kind k values =
    if kind == 1 then Swap k (get_or values 0 baby_bear_ring.zero) (get_or values 1 baby_bear_ring.zero) (get_or values 2 baby_bear_ring.zero)
    else if kind == 2 then Wheel k
    else if kind == 3 then Take k
    else if kind == 4 then Give k
    else Hash k

-- the version of the transcript that a number stands for, and the number of a version
abbrev pub version_of : ℕ → TranscriptVersion
version_of n = if n == 2 then V2 else V1

abbrev pub version_number : TranscriptVersion → ℕ
version_number V1 = 1
version_number V2 = 2

-- a proof file as plain data
pub record FileData : Type 0 where
  pub version : ℕ
  pub tables : List TableStatement
  pub proof : ToolProofData

-- a file of version 1 or 2 with 1 to 8 tables, each within its limits, and a proof within those of proofs
pub record FileWithin (f : FileData) : Type 0 where
  pub version : Between 1 2 f.version
  pub tables : ListWithin 1 8 TableWithin f.tables
  pub proof : ProofWithin f.proof

-- the version, the list of the tables, and the proof
abbrev pub file_numbers : FileData → List ℕ
file_numbers f = f.version ∷ list_numbers statement_numbers f.tables ++ proof_numbers f.proof
