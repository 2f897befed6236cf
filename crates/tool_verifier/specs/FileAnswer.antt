-- What `verify` answers for a proof file: a status and a text.
use Rattle.std.specs.Prelude.{◌≡◌, ◌⊎◌, ℕ, ◌^◌, ◌<◌, ◌≤◌, List, [], ◌∷◌, ◌++◌, All, codes, length, map, slice_get, Some, sum, nat_eq}
use Rattle.std.specs.Prelude.{slice_index_or as get_or}
use Rattle.blake3_compress.specs.Compress.{Input}
use Rattle.blake3_compress.specs.TraceRow.{AreWords}
use Rattle.p3_field.specs.Quartic.{quartic_inv}
use Rattle.p3_field.specs.declared.baby_bear.BabyBear.{BabyBear}
use Rattle.plain_pcs.specs.declared.error.PlainError.{PlainError}
use Rattle.transcript_version.specs.declared.TranscriptVersion.{TranscriptVersion}
use Rattle.tool_hash_lines.specs.Compressions.{printed_compression_words}
use Rattle.tool_hash_lines.specs.PrintedRows.{committed_cells, printed_rows}
use Rattle.tool_hash_lines.specs.RowText.{row_line, words_line}
use Rattle.batch_statement.specs.declared.error.BatchVerificationError.{BatchVerificationError}
use Rattle.verifier_batch.specs.BatchChecks.{Accepted, FirstFault}
use Rattle.p3_field.specs.declared.quartic.QuarticExtension.{QuarticExtension}
use Rattle.law_committed.specs.Batch.{IsUnluckyAlphaOfBatch, IsUnluckyZetaOfBatch}
use Rattle.law_committed.specs.Unlucky.{AreDistinct}
use Rattle.law_soundness.specs.CommittedBatch.{committed_batch}
use Rattle.law_balance.specs.Accepted.{BalanceUnlessUnlucky}
use Rattle.law_soundness.specs.Meaning.{HoldUnlessUnlucky, IsAlphaUnlucky, IsZetaUnlucky}
use Rattle.law_soundness.specs.Swapped.{EndsSwapped}
use Rattle.law_soundness.specs.UnluckyCounts.{most_alphas, most_zetas}
use Rattle.tool_proof_text.specs.ProofText.{ToolProofData}
use Rattle.tool_statement.specs.Config.{tool_setting, tool_backend}
use Rattle.tool_statement.specs.StatedTables.{HaveStatedHeights, IsHeightMismatch, tool_statement}
use Rattle.tool_statement.specs.declared.table.TableStatement.{TableStatement}
use Rattle.tool_statement.specs.declared.table.TableStatement.TheVariants.{Swap, Hash}
use Rattle.tool_verifier.specs.Refusals.{fault_text, refused_text}
use Rattle.tool_verifier.specs.declared.status.Status.{Status}
use Rattle.tool_verifier.specs.declared.status.Status.TheVariants.{Done, Refused, Usage, BadInput, ReadFault, WriteFault, OutOfMemory, TooLarge}

abbrev pub mismatch_text : ℕ → List ℕ
mismatch_text i = refused_text (codes "HeightMismatch") (i ∷ [])

-- the proof has the stated heights, and no check of the batch verifier fails, all challenges being drawn from the transcript of this version
abbrev pub IsAccepted : TranscriptVersion → List TableStatement → ToolProofData → Type 0
IsAccepted version tables p = HaveStatedHeights tables p.degree_bits × Accepted (tool_setting version) tool_backend (tool_statement tables) p

-- Where neither drawn challenge is unlucky, each swap table ends as it should: its last right cell is the second stated value in a table that is stated to
-- have one row, and else the first.
abbrev pub SwapsEnd : TranscriptVersion → List TableStatement → ToolProofData → Type 0
SwapsEnd version tables p =
    (IsAlphaUnlucky (tool_setting version) 1 (tool_statement tables) p → ⊥) → (IsZetaUnlucky (tool_setting version) 1 (tool_statement tables) p → ⊥)
    → (i k : ℕ) (a b x : BabyBear) → slice_get tables i ≡ Some (Swap k a b x) → EndsSwapped k a b x

-- The same where the proof's degree bits say how many rows there are.
abbrev pub SwapsEndByBits : TranscriptVersion → List TableStatement → ToolProofData → Type 0
SwapsEndByBits version tables p =
    (IsAlphaUnlucky (tool_setting version) 1 (tool_statement tables) p → ⊥) → (IsZetaUnlucky (tool_setting version) 1 (tool_statement tables) p → ⊥)
    → (i k : ℕ) (a b x : BabyBear) → slice_get tables i ≡ Some (Swap k a b x) → EndsSwapped (get_or p.degree_bits i 0) a b x

-- Where neither drawn challenge is unlucky, each printed row of a hash table is readable, and its last 16 words are the compression of its first 28.
abbrev pub PrintCompressions : TranscriptVersion → List TableStatement → ToolProofData → Type 0
PrintCompressions version tables p =
    (IsAlphaUnlucky (tool_setting version) 1 (tool_statement tables) p → ⊥) → (IsZetaUnlucky (tool_setting version) 1 (tool_statement tables) p → ⊥)
    → (i k row : ℕ) → slice_get tables i ≡ Some (Hash k) → row < 2 ^ k
    → (x : Input) × AreWords x × (row_line row (committed_cells tables p i row) ≡ words_line (printed_compression_words x))

-- How few challenges are unlucky for the committed tables, whatever is drawn: of alphas at most the sum of `most_alphas` of the tables, and with any alpha
-- of zetas at most the sum of `most_zetas`. Counts are of lists without repetitions, and say nothing of how likely one of these is drawn.
pub record FewAreUnlucky (version : TranscriptVersion) (tables : List TableStatement) (p : ToolProofData) : Type 0 where
  pub alphas : (alphas : List QuarticExtension) → AreDistinct (tool_setting version).extension.ring.zero alphas
      → All (IsUnluckyAlphaOfBatch (tool_setting version).field (tool_setting version).extension (committed_batch (tool_setting version) 1 (tool_statement tables) p)) alphas
      → length alphas ≤ sum (map most_alphas (committed_batch (tool_setting version) 1 (tool_statement tables) p))
  pub zetas : (alpha : QuarticExtension) (zetas : List QuarticExtension) → AreDistinct (tool_setting version).extension.ring.zero zetas
      → All (IsUnluckyZetaOfBatch (tool_setting version).field (tool_setting version).extension (committed_batch (tool_setting version) 1 (tool_statement tables) p) alpha) zetas
      → length zetas ≤ sum (map most_zetas (committed_batch (tool_setting version) 1 (tool_statement tables) p))

-- What the committed tables send to each other balances in the field, or the drawn lookup pair, alpha or zeta is unlucky.
abbrev pub TablesBalance : TranscriptVersion → List TableStatement → ToolProofData → Type 0
TablesBalance version tables p = BalanceUnlessUnlucky (tool_setting version) 1 (tool_statement tables) p (λ x y. nat_eq x.value y.value) quartic_inv

-- What an accepted proof means: every constraint of every table is zero on each row of the committed polynomials, or the drawn alpha or the drawn zeta
-- is unlucky; and where neither is, swap tables end as they should, and what is printed are compressions. What the tables send to each other, row by row of
-- these polynomials, balances: for each bus and tuple the counts of all rows of all tables sum to zero in the field, or the drawn lookup pair, alpha or zeta is
-- unlucky. Few challenges are unlucky. The scheme's blowup is two to the power of one.
pub record IsMeant (version : TranscriptVersion) (tables : List TableStatement) (p : ToolProofData) : Type 0 where
  pub holds : HoldUnlessUnlucky (tool_setting version) 1 (tool_statement tables) p
  pub swaps : SwapsEnd version tables p
  pub hashes : PrintCompressions version tables p
  pub few : FewAreUnlucky version tables p
  pub balance : TablesBalance version tables p

-- the text where the proof is accepted: `accepted`, and the rows of hash tables
abbrev pub accepted_text : List TableStatement → ToolProofData → List ℕ
accepted_text tables p = codes "accepted\n" ++ printed_rows tables p

-- why it isn't accepted, as the line that says so: the first table with another height, or else the first check that fails
abbrev pub IsRefusedWith : TranscriptVersion → List TableStatement → ToolProofData → List ℕ → Type 0
IsRefusedWith version tables p text =
    ((i : ℕ) × IsHeightMismatch tables p.degree_bits i × (text ≡ mismatch_text i))
    ⊎ (HaveStatedHeights tables p.degree_bits × ((e : BatchVerificationError PlainError) × FirstFault (tool_setting version) tool_backend (tool_statement tables) p e × (text ≡ fault_text e)))

-- The status and the text for a file of this version. What `accepted` means follows from the checks, and is said here since it is what a reader of the text relies on.
unfoldable pub IsFileAnswer : TranscriptVersion → List TableStatement → ToolProofData → Status → List ℕ → Type 0
IsFileAnswer version tables p Done text = IsAccepted version tables p × IsMeant version tables p × (text ≡ accepted_text tables p)
IsFileAnswer version tables p Refused text = IsRefusedWith version tables p text
IsFileAnswer version tables p Usage text = ⊥
IsFileAnswer version tables p BadInput text = ⊥
IsFileAnswer version tables p ReadFault text = ⊥
IsFileAnswer version tables p WriteFault text = ⊥
IsFileAnswer version tables p OutOfMemory text = ⊥
IsFileAnswer version tables p TooLarge text = ⊥

-- two answers are one
abbrev pub SameAnswer : (s t : Status) (x y : List ℕ) → Type 0
SameAnswer s t x y = (s ≡ t) × (x ≡ y)
