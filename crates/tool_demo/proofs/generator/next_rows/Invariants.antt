use Rattle.std.proofs.Common.{◌≡◌, ℕ, ◌+◌, ◌*◌}
use Rattle.tool_demo.specs.Demo.{state_after, hash_rows}
use Rattle.tool_demo.proofs.generator.next_rows.Given as goal

abbrev pub invariant-loop-i : goal.invariant-loop-i
invariant-loop-i l = record {
  state : (seed : ℕ) → l.fn.generator ≡ state_after seed 1026 → l.generator ≡ state_after seed (1026 + 24 * l._i);
  so_far : (seed : ℕ) → l.fn.generator ≡ state_after seed 1026 → l.rows.items ≡ hash_rows seed l._i;
}
