use Rattle.std.proofs.Common.{◌≡◌, ℕ, ◌+◌}
use Rattle.tool_demo.specs.Demo.{state_after, taken_numbers}
use Rattle.tool_demo.proofs.generator.next_numbers.Given as goal

abbrev pub invariant-loop-i : goal.invariant-loop-i
invariant-loop-i l = record {
  state : (seed : ℕ) → l.fn.generator ≡ state_after seed 2 → l.generator ≡ state_after seed (2 + l._i);
  so_far : (seed : ℕ) → l.fn.generator ≡ state_after seed 2 → l.numbers.items ≡ taken_numbers seed l._i;
}
