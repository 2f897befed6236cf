-- The proof file of a job's honest proof is within its limits, and its text isn't too long.
use Rattle.std.specs.Int.{IsPowerOfTwo}
use Rattle.std.proofs.Common.{◌≡◌, ℕ, zero, suc, ◌+◌, ◌*◌, ◌^◌, ◌<◌, ◌≤◌, List, [], ◌∷◌, ◌++◌, length, get_or, sym, ◌∙◌, ap, subst, arith, length-append}
use Rattle.std.specs.Prelude.{All}
use Rattle.std.proofs.lemmas.List.{get_or_default}
use Rattle.std.proofs.lemmas.Nat.{pow_pos}
use Rattle.p3_field.specs.Laws.Tabulate.{length-tabulate}
use Rattle.p3_field.specs.Quartic.{quartic_inv}
use Rattle.blake3_compress.specs.Generated.{input_of}
use Rattle.batch_setup.specs.Setup.{log_of}
use Rattle.chain_air.specs.Chain.{AreEight, output_word}
use Rattle.chain_air.specs.Generated.{block_words, chaining_before, end_of}
use Rattle.chain_proofs.specs.Laws.Length.{proof_few}
use Rattle.chain_proofs.specs.Laws.Table.{small_log}
use Rattle.chain_proofs.specs.Laws.Within.{proof_within}
use Rattle.chain_proofs.specs.Statement.{IsChainProof}
use Rattle.law_committed.specs.Fields.{FieldsLaws, baby_bear_field, quartic_extension}
use Rattle.tool_bytes.specs.Limits.{most_bytes}
use Rattle.tool_lines.specs.Texts.{line_text}
use Rattle.tool_proof_text.specs.ProofText.{ToolProofData, proof_numbers}
use Rattle.tool_prover.specs.Laws.FileLength.{numbers_short}
use Rattle.stark_chain.specs.Answer.{file_of}
use Rattle.stark_chain.specs.Laws.Texts.{file-grammar}
use Rattle.stark_chain.specs.Texts.{AreWordsOf, FileData, FileWithin, JobData, JobWithin, file_numbers}

-- the words of the last chaining value
end_long : (start : List ℕ) (blocks : List (List ℕ)) (n : ℕ) → 0 < n → length (chaining_before start blocks n) ≡ 8
unfolding chaining_before
end_long start blocks zero h = absurd (omega (arith, h))
end_long start blocks (suc n) h = length-tabulate 8 (output_word (input_of (block_words blocks n (chaining_before start blocks n))))

each_word : (words : List ℕ) → length words ≡ 8 → AreEight (input_of words) → All (λ w. w < 2 ^ 32) words
each_word words long eight i d l = subst (λ w. w < 2 ^ 32) (get_or_default words i 0 d l) (eight i (omega (arith, l, long)))

some_blocks : (n : ℕ) → IsPowerOfTwo n → 0 < n
some_blocks n (k, e) = let p = pow_pos k in omega (arith, e, p)

module _ (job : JobData) (W : JobWithin job) (q : ToolProofData) (honest : IsChainProof job.start job.blocks q) (L : FieldsLaws baby_bear_field quartic_extension 27 quartic_inv)
    (last : AreEight (input_of (end_of job.start job.blocks))) where
  power : IsPowerOfTwo (length job.blocks)
  power = W.blocks.0.0

  few : length job.blocks ≤ 8
  few = W.blocks.0.1

  -- the file is within its limits
  pub file_within : FileWithin (file_of job q)
  file_within =
      let long = end_long job.start job.blocks (length job.blocks) (some_blocks (length job.blocks) power) in
      record {
        rows = small_log (length job.blocks) power few;
        start = W.start;
        end = (long, each_word (end_of job.start job.blocks) long last);
        proof = proof_within job.start job.blocks power few L q honest;
      }

  numbers_few : length (file_numbers (file_of job q)) ≤ 2170000
  numbers_few =
      let end = end_of job.start job.blocks in
      let first = W.start.0 in
      let second = file_within.end.0 in
      let proof = proof_few job.start job.blocks power few L q honest in
      omega (arith, first, second, proof, length-append job.start (end ++ proof_numbers q), length-append end (proof_numbers q))

  -- and its text is one that can be read whole
  pub text_short : (text : List ℕ) → text ≡ line_text (file_numbers (file_of job q)) → length text ≤ most_bytes
  text_short text is =
      let short = numbers_short text (file_numbers (file_of job q)) (file-grammar.small (file_of job q) file_within) is numbers_few in
      omega (arith, short)
