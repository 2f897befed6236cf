use Rattle.std.proofs.Common.{◌≡◌, ℕ, ◌+◌, ◌*◌, List, ap, ◌∙◌, arith}
use Rattle.blake3_binary.specs.declared.input.Blake3CompressionInput.{Blake3CompressionInput}
use Rattle.blake3_binary.specs.Random.{state_after, random_words, binary_random_input}
use Rattle.blake3_binary.proofs.random.next_input.Goals as goal

made : List ℕ → List ℕ → ℕ → Blake3CompressionInput
made cv block i = record { chaining_value = cv; block = block; counter = i; block_len = 64; flags = 0 }

input_is : (i : ℕ) (cv block : List ℕ) → cv ≡ random_words (24 * i) 8 → block ≡ random_words (24 * i + 8) 16 → made cv block i ≡ binary_random_input i
unfolding made
input_is i cv block e f = λ j. record { chaining_value = e j; block = f j; counter = i; block_len = 64; flags = 0 }

pub returns : goal.returns
unfolding made
returns c = record {
  input = λ e.
      let after = c.next_chaining_value-chaining_value.ensures.state (24 * c.args.i) e in
      input_is c.args.i _ _ (c.next_chaining_value-chaining_value.ensures.words (24 * c.args.i) e) (c.next_block-block.ensures.words (24 * c.args.i + 8) after);
  state = λ e.
      let after = c.next_chaining_value-chaining_value.ensures.state (24 * c.args.i) e in
      let next : 24 * c.args.i + 8 + 16 ≡ 24 * (c.args.i + 1) = omega arith in
      c.next_block-block.ensures.state (24 * c.args.i + 8) after ∙ ap state_after next;
}
