use Rattle.std.proofs.Common.{◌≡◌, ℕ, ◌+◌, ◌%◌, ◌^◌, ◌<◌, get_or, length}
use Rattle.tool_demo.specs.Demo.{state_after, word_at}
use Rattle.tool_demo.proofs.generator.next_row.Given as goal

abbrev pub invariant-loop-k : goal.invariant-loop-k
invariant-loop-k l = record {
  long : length l.row ≡ 24;
  state : (seed n : ℕ) → l.fn.generator ≡ state_after seed n → l.generator ≡ state_after seed (n + l.k);
  so_far : (seed n : ℕ) → l.fn.generator ≡ state_after seed n → (j : ℕ) → j < l.k → get_or l.row j 0 ≡ word_at seed (n + j) % 2 ^ 32;
}
