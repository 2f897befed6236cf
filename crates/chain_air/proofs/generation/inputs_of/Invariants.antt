use Rattle.std.proofs.Common.{◌≡◌}
use Rattle.p3_field.specs.Poly.{tabulate}
use Rattle.chain_air.specs.Generated.{chaining_before, joined_words}
use Rattle.chain_air.proofs.generation.inputs_of.Given as goal

abbrev pub invariant-loop-i : goal.invariant-loop-i
invariant-loop-i l = record {
  before : l.chaining ≡ chaining_before l.fn.start l.blocks l.i;
  so_far : l.inputs.items ≡ tabulate l.i (λ i. joined_words l.blocks i (chaining_before l.fn.start l.blocks i));
}
