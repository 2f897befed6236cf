use Rattle.std.proofs.Common.{◌≡◌, ◌*◌}
use Rattle.blake3_binary.specs.Random.{state_after, binary_random_inputs}
use Rattle.blake3_binary.proofs.random.random_inputs.Given as goal

abbrev pub invariant-loop-i : goal.invariant-loop-i
invariant-loop-i l = record {
  state : l.generator ≡ state_after (24 * l.i);
  so_far : l.inputs.items ≡ binary_random_inputs l.i;
}
