use Rattle.std.proofs.Common.{◌≡◌, reverse}
use Rattle.p3_field.specs.Ring.{pow}
use Rattle.p3_uni_stark.specs.Fold.{fold_powers}
use Rattle.prover_values.proofs.powers.falling_powers.Given as goal

abbrev pub invariant-loop : goal.invariant-loop
invariant-loop g l = record {
  powers_so_far : reverse l.powers.items ≡ fold_powers g.E.RingCore.ring l.challenge l.counter;
  power_is : l.power ≡ pow g.E.RingCore.ring l.challenge l.counter;
}
