-- The numbers of a proof file tell the file.
use Rattle.std.proofs.Common.{◌≡◌, ℕ, List, refl, arith}
use Rattle.transcript_version.specs.declared.TranscriptVersion.{TranscriptVersion}
use Rattle.transcript_version.specs.declared.TranscriptVersion.TheVariants.{V1, V2}
use Rattle.tool_lines.specs.Texts.{Between, Grammar, ListWithin, list_numbers, one_number}
use Rattle.tool_lines.specs.Laws.Grammars.{ThenWithin, SameTexts, list-grammar, number-grammar, pair_numbers, same-grammar, then-grammar}
use Rattle.tool_statement.specs.StatedTables.{TableWithin}
use Rattle.tool_statement.specs.declared.table.TableStatement.{TableStatement}
use Rattle.tool_proof_text.specs.ProofText.{ProofWithin, ToolProofData, proof_numbers}
use Rattle.tool_proof_text.specs.Laws.Proofs.{proof-grammar}
use Rattle.tool_proof_files.specs.Files.{FileWithin, file_numbers, statement_numbers, version_number, version_of}
use Rattle.tool_proof_files.specs.Laws.Tables.{table-grammar}

-- a file is seen as its version, the list of its tables, and its proof
abbrev pub ListedWithin : List TableStatement → Type 0
ListedWithin = ListWithin 1 8 TableWithin

abbrev pub listed_numbers : List TableStatement → List ℕ
listed_numbers = list_numbers statement_numbers

pub version-grammar : Grammar (Between 1 2) one_number
version-grammar = number-grammar 1 2 (omega arith) (omega arith)

pub listed-grammar : Grammar ListedWithin listed_numbers
listed-grammar = list-grammar 1 8 (omega arith) (omega arith) table-grammar

abbrev pub StatedWithin : List TableStatement × ToolProofData → Type 0
StatedWithin = ThenWithin ListedWithin ProofWithin

abbrev pub stated_numbers : List TableStatement × ToolProofData → List ℕ
stated_numbers = pair_numbers listed_numbers proof_numbers

pub stated-grammar : Grammar StatedWithin stated_numbers
stated-grammar = then-grammar listed-grammar proof-grammar

abbrev pub SeenWithin : ℕ × (List TableStatement × ToolProofData) → Type 0
SeenWithin = ThenWithin (Between 1 2) StatedWithin

abbrev pub seen_numbers : ℕ × (List TableStatement × ToolProofData) → List ℕ
seen_numbers = pair_numbers one_number stated_numbers

unfoldable pub same-file : SameTexts SeenWithin seen_numbers FileWithin file_numbers
same-file = record {
  to = λ p. record { version = p.0; tables = p.1.0; proof = p.1.1 };
  to_fits = λ p h. record { version = h.0; tables = h.1.0; proof = h.1.1 };
  to_numbers = λ p h. refl;
  whole = λ f h. ((f.version, (f.tables, f.proof)), (h.version, (h.tables, h.proof)), refl);
}

pub file-grammar : Grammar FileWithin file_numbers
file-grammar = same-grammar same-file (then-grammar version-grammar stated-grammar)

-- a version's number is 1 or 2, and tells the version
pub version-within : (version : TranscriptVersion) → Between 1 2 (version_number version)
version-within V1 = (omega arith, omega arith)
version-within V2 = (omega arith, omega arith)

pub version-back : (version : TranscriptVersion) → version_of (version_number version) ≡ version
version-back V1 = refl
version-back V2 = refl
