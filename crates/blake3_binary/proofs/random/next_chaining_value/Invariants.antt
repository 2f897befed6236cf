use Rattle.std.proofs.Common.{◌≡◌, ℕ, ◌+◌, ◌<◌, get_or, length}
use Rattle.blake3_binary.specs.Random.{state_after, random_word}
use Rattle.blake3_binary.proofs.random.next_chaining_value.Given as goal

abbrev pub invariant-loop-k : goal.invariant-loop-k
invariant-loop-k l = record {
  long : length l.words ≡ 8;
  state : (n : ℕ) → l.fn.generator ≡ state_after n → l.generator ≡ state_after (n + l.k);
  so_far : (n : ℕ) → l.fn.generator ≡ state_after n → (i : ℕ) → i < l.k → get_or l.words i 0 ≡ random_word (n + i);
}
