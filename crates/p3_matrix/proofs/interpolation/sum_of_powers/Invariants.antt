use Rattle.std.proofs.Common.{◌≡◌, ◌^◌}
use Rattle.p3_field.specs.Ring.{pow}
use Rattle.p3_field.specs.Laws.Selectors.{doubling_product}
use Rattle.p3_matrix.proofs.interpolation.sum_of_powers.Given as goal

abbrev pub invariant-loop : goal.invariant-loop
invariant-loop g l = let s = g.F.RingCore.ring in record {
  product_so_far : l.product ≡ doubling_product s l.counter l.fn.x;
  power_is : l.power ≡ pow s l.fn.x (2 ^ l.counter);
}
