-- What is explained of a proof file: the status and the report.
use Rattle.std.specs.Prelude.{◌≡◌, ◌↔◌, ℕ, suc, List, ◌++◌, length, map, min}
use Rattle.p3_field.specs.Quartic.{quartic_coefficients}
use Rattle.p3_field.specs.declared.quartic.QuarticExtension.{QuarticExtension}
use Rattle.transcript_version.specs.declared.TranscriptVersion.{TranscriptVersion}
use Rattle.tool_proof_text.specs.ProofText.{ToolProofData}
use Rattle.tool_statement.specs.Config.{tool_setting, tool_backend}
use Rattle.tool_statement.specs.StatedTables.{HasStatedHeight, tool_statement}
use Rattle.tool_statement.specs.declared.table.TableStatement.{TableStatement}
use Rattle.tool_verifier.specs.FileAnswer.{IsAccepted, IsRefusedWith}
use Rattle.tool_verifier.specs.Refusals.{fault_name, fault_numbers, refused_text}
use Rattle.tool_verifier.specs.declared.status.Status.{Status}
use Rattle.tool_verifier.specs.declared.status.Status.TheVariants.{Done, Refused, Usage, BadInput, ReadFault, WriteFault, OutOfMemory, TooLarge}
use Rattle.audit_batch.specs.Report.{IsPlayedText, IsReport, fails_line}

-- a challenge's coefficients
abbrev pub coefficient_numbers : QuarticExtension → List ℕ
coefficient_numbers x = map (λ v. v.value) (quartic_coefficients x)

-- How many tables, below both lengths, have a stated height and one of the proof.
abbrev pub compared : List TableStatement → ToolProofData → ℕ
compared tables p = min (length tables) (length p.degree_bits)

-- the report on a file of this version, which has the tables of other heights first and counts so many things that fail
abbrev pub IsReported : TranscriptVersion → List TableStatement → ToolProofData → List ℕ → ℕ → Type 0
IsReported version tables p text n =
    IsReport (tool_setting version) tool_backend (tool_statement tables) p (compared tables p) (HasStatedHeight tables p.degree_bits) fault_name fault_numbers coefficient_numbers text n

-- the status and the text: `Done` exactly where nothing fails
abbrev pub IsExplained : TranscriptVersion → List TableStatement → ToolProofData → Status → List ℕ → Type 0
IsExplained version tables p Done text = IsReported version tables p text 0
IsExplained version tables p Refused text = (n : ℕ) × IsReported version tables p text (suc n)
IsExplained version tables p Usage text = ⊥
IsExplained version tables p BadInput text = ⊥
IsExplained version tables p ReadFault text = ⊥
IsExplained version tables p WriteFault text = ⊥
IsExplained version tables p OutOfMemory text = ⊥
IsExplained version tables p TooLarge text = ⊥

-- the first line after the steps has the name and the numbers of `verify`'s refusal
pub record NamesRefusal (version : TranscriptVersion) (tables : List TableStatement) (p : ToolProofData) (text : List ℕ) : Type 0 where
  pub name : List ℕ
  pub fields : List ℕ
  pub refused : IsRefusedWith version tables p (refused_text name fields)
  pub steps : List ℕ
  pub played : IsPlayedText (tool_setting version) tool_backend (tool_statement tables) p coefficient_numbers steps
  pub after : List ℕ
  pub line : text ≡ (steps ++ fails_line name fields) ++ after

-- it is done exactly where the file is accepted
abbrev pub DoneWhereAccepted : TranscriptVersion → List TableStatement → ToolProofData → Status → Type 0
DoneWhereAccepted version tables p status = status ≡ Done ↔ IsAccepted version tables p

-- and else the report names `verify`'s refusal first
abbrev pub NamesRefusalElse : TranscriptVersion → List TableStatement → ToolProofData → Status → List ℕ → Type 0
NamesRefusalElse version tables p status text = status ≡ Refused → NamesRefusal version tables p text
