use Rattle.std.proofs.Common.{◌≡◌, ◌*◌}
use Rattle.blake3_prime.specs.Random.{state_after, random_inputs}
use Rattle.blake3_prime.proofs.random.random_inputs.Given as goal

abbrev pub invariant-loop-i : goal.invariant-loop-i
invariant-loop-i l = record {
  state : l.generator ≡ state_after (24 * l._i);
  so_far : l.inputs.items ≡ random_inputs l._i;
}
