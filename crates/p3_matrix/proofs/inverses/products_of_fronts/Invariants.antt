use Rattle.std.proofs.Common.{◌≡◌}
use Rattle.p3_field.specs.Poly.{tabulate}
use Rattle.p3_matrix.specs.Products.{product_below}
use Rattle.p3_matrix.proofs.inverses.products_of_fronts.Given as goal

abbrev pub invariant-loop-value : goal.invariant-loop-value
invariant-loop-value g l = let r = g.F.RingCore.ring in record {
  fronts_so_far : l.fronts.items ≡ tabulate l.value-index (product_below r l.values);
  product_is : l.product ≡ product_below r l.values l.value-index;
}
