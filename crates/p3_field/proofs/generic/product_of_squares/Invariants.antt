use Rattle.std.proofs.Common.{◌≡◌, ◌-◌, ◌^◌}
use Rattle.p3_field.specs.Ring.{pow}
use Rattle.p3_field.proofs.generic.product_of_squares.Given as goal

abbrev pub invariant-loop : goal.invariant-loop
invariant-loop g l = record {
  product_is : l.product ≡ pow g.F.RingCore.ring l.fn.x (2 ^ l.counter - 1);
  square_is : l.square ≡ pow g.F.RingCore.ring l.fn.x (2 ^ l.counter);
}
