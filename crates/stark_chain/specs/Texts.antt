-- The texts of chains (not in Plonky3): jobs and proof files as plain data, their limits and their numbers.
use Rattle.std.specs.Prelude.{◌≡◌, ℕ, ◌^◌, ◌<◌, ◌≤◌, List, ◌∷◌, ◌++◌, length, All}
use Rattle.tool_lines.specs.Counts.{PowersWithin}
use Rattle.tool_lines.specs.Texts.{list_numbers}
use Rattle.tool_proof_text.specs.ProofText.{ProofWithin, ToolProofData, proof_numbers}

-- so many words of 32 bits, a line for each
abbrev pub AreWordsOf : ℕ → List ℕ → Type 0
AreWordsOf n words = (length words ≡ n) × All (λ w. w < 2 ^ 32) words

abbrev pub words_numbers : List ℕ → List ℕ
words_numbers words = words

-- a job: the chaining value before the first block, and the blocks
pub record JobData : Type 0 where
  pub start : List ℕ
  pub blocks : List (List ℕ)

-- 8 words, and 1, 2, 4 or 8 blocks of 16 words
pub record JobWithin (j : JobData) : Type 0 where
  pub start : AreWordsOf 8 j.start
  pub blocks : PowersWithin 8 (AreWordsOf 16) j.blocks

-- the words of the chaining value, and the list of the blocks
abbrev pub job_numbers : JobData → List ℕ
job_numbers j = j.start ++ list_numbers words_numbers j.blocks

-- a proof file: the logarithm of the number of compressions, the chaining values before the first and after the last of them, and the proof
pub record FileData : Type 0 where
  pub log_rows : ℕ
  pub start : List ℕ
  pub end : List ℕ
  pub proof : ToolProofData

pub record FileWithin (f : FileData) : Type 0 where
  pub rows : f.log_rows ≤ 3
  pub start : AreWordsOf 8 f.start
  pub end : AreWordsOf 8 f.end
  pub proof : ProofWithin f.proof

-- the version of the transcript, which is 2, the logarithm, both chaining values, and the proof
abbrev pub file_numbers : FileData → List ℕ
file_numbers f = 2 ∷ f.log_rows ∷ (f.start ++ (f.end ++ proof_numbers f.proof))
