-- The numbers of a text tell the value.
use Rattle.std.proofs.Common.{◌≡◌, ℕ, ◌≤◌, List, [], ◌∷◌, ◌++◌, refl, arith}
use Rattle.tool_lines.specs.Counts.{PowersWithin}
use Rattle.tool_lines.specs.Laws.Counts.{powers-grammar}
use Rattle.tool_lines.specs.Laws.Grammars.{SameTexts, ThenWithin, items-grammar, number-grammar, numbers-own, pair_numbers, same-grammar, then-grammar, word-grammar}
use Rattle.tool_lines.specs.Texts.{Between, Grammar, ItemsWithin, items_numbers, list_numbers, one_number}
use Rattle.tool_proof_text.specs.Laws.Proofs.{proof-grammar}
use Rattle.tool_proof_text.specs.ProofText.{ProofWithin, ToolProofData, proof_numbers}
use Rattle.stark_chain.specs.Texts.{AreWordsOf, FileData, FileWithin, JobData, JobWithin, file_numbers, job_numbers, words_numbers}

-- words are seen as so many numbers of 32 bits
unfoldable pub same-words : (n : ℕ) → SameTexts (ItemsWithin n (Between 0 4294967295)) (items_numbers one_number) (AreWordsOf n) words_numbers
same-words n = record {
  to = λ words. words;
  to_fits = λ words h. (h.0, λ i d l. let w = (h.1 i d l).1 in omega (arith, w));
  to_numbers = λ words h. numbers-own words;
  whole = λ words h. (words, (h.0, λ i d l. let w = h.1 i d l in (omega arith, omega (arith, w))), refl);
}

pub words-grammar : (n : ℕ) → Grammar (AreWordsOf n) words_numbers
words-grammar n = same-grammar (same-words n) (items-grammar n word-grammar)

-- a job is seen as its chaining value, and its blocks
abbrev pub BlocksWithin : List (List ℕ) → Type 0
BlocksWithin = PowersWithin 8 (AreWordsOf 16)

abbrev pub blocks_numbers : List (List ℕ) → List ℕ
blocks_numbers = list_numbers words_numbers

pub blocks-grammar : Grammar BlocksWithin blocks_numbers
blocks-grammar = powers-grammar 8 (omega arith) (omega arith) (words-grammar 16)

abbrev pub SeenJobWithin : List ℕ × List (List ℕ) → Type 0
SeenJobWithin = ThenWithin (AreWordsOf 8) BlocksWithin

abbrev pub seen_job_numbers : List ℕ × List (List ℕ) → List ℕ
seen_job_numbers = pair_numbers words_numbers blocks_numbers

unfoldable pub same-job : SameTexts SeenJobWithin seen_job_numbers JobWithin job_numbers
same-job = record {
  to = λ p. record { start = p.0; blocks = p.1 };
  to_fits = λ p h. record { start = h.0; blocks = h.1 };
  to_numbers = λ p h. refl;
  whole = λ j h. ((j.start, j.blocks), (h.start, h.blocks), refl);
}

pub job-grammar : Grammar JobWithin job_numbers
job-grammar = same-grammar same-job (then-grammar (words-grammar 8) blocks-grammar)

-- a proof file is seen as its version, the logarithm of its rows, its chaining values, and its proof
pub version-grammar : Grammar (Between 2 2) one_number
version-grammar = number-grammar 2 2 (omega arith) (omega arith)

pub rows-grammar : Grammar (Between 0 3) one_number
rows-grammar = number-grammar 0 3 (omega arith) (omega arith)

abbrev pub LastWithin : List ℕ × ToolProofData → Type 0
LastWithin = ThenWithin (AreWordsOf 8) ProofWithin

abbrev pub last_numbers : List ℕ × ToolProofData → List ℕ
last_numbers = pair_numbers words_numbers proof_numbers

pub last-grammar : Grammar LastWithin last_numbers
last-grammar = then-grammar (words-grammar 8) proof-grammar

abbrev pub EndsWithin : List ℕ × (List ℕ × ToolProofData) → Type 0
EndsWithin = ThenWithin (AreWordsOf 8) LastWithin

abbrev pub ends_numbers : List ℕ × (List ℕ × ToolProofData) → List ℕ
ends_numbers = pair_numbers words_numbers last_numbers

pub ends-grammar : Grammar EndsWithin ends_numbers
ends-grammar = then-grammar (words-grammar 8) last-grammar

abbrev pub StatedWithin : ℕ × (List ℕ × (List ℕ × ToolProofData)) → Type 0
StatedWithin = ThenWithin (Between 0 3) EndsWithin

abbrev pub stated_numbers : ℕ × (List ℕ × (List ℕ × ToolProofData)) → List ℕ
stated_numbers = pair_numbers one_number ends_numbers

pub stated-grammar : Grammar StatedWithin stated_numbers
stated-grammar = then-grammar rows-grammar ends-grammar

abbrev pub SeenFileWithin : ℕ × (ℕ × (List ℕ × (List ℕ × ToolProofData))) → Type 0
SeenFileWithin = ThenWithin (Between 2 2) StatedWithin

abbrev pub seen_file_numbers : ℕ × (ℕ × (List ℕ × (List ℕ × ToolProofData))) → List ℕ
seen_file_numbers = pair_numbers one_number stated_numbers

unfoldable pub same-file : SameTexts SeenFileWithin seen_file_numbers FileWithin file_numbers
same-file = record {
  to = λ p. record { log_rows = p.1.0; start = p.1.1.0; end = p.1.1.1.0; proof = p.1.1.1.1 };
  to_fits = λ p h. record { rows = h.1.0.1; start = h.1.1.0; end = h.1.1.1.0; proof = h.1.1.1.1 };
  to_numbers = λ p h. let low = h.0.0 in let high = h.0.1 in let two : 2 ≡ p.0 = omega (arith, low, high) in λ i. two i ∷ stated_numbers p.1;
  whole = λ f h. ((2, (f.log_rows, (f.start, (f.end, f.proof)))), ((omega arith, omega arith), ((omega arith, h.rows), (h.start, (h.end, h.proof)))), refl);
}

pub file-grammar : Grammar FileWithin file_numbers
file-grammar = same-grammar same-file (then-grammar version-grammar stated-grammar)
