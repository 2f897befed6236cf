use Rattle.std.proofs.Common.{◌≡◌, ℕ, ◌<◌, ◌≤◌, length, get_or}
use Rattle.p3_matrix.specs.Products.{product_below}
use Rattle.p3_matrix.proofs.inverses.inverses_by_fronts.Given as goal

abbrev pub invariant-loop-i : goal.invariant-loop-i
invariant-loop-i g l = let r = g.F.RingCore.ring in record {
  count : length l.inverses.items ≡ length l.values;
  quotient_is : r.mul l.quotient (product_below r l.values l.i) ≡ r.mul l.fn.quotient_of_all (product_below r l.values (length l.values));
  before : (k : ℕ) → k < l.i → get_or l.inverses.items k r.zero ≡ product_below r l.values k;
  done : (k : ℕ) → l.i ≤ k → k < length l.values → get_or l.inverses.items k r.zero ≡ r.mul (r.mul l.fn.quotient_of_all (product_below r l.values (length l.values))) (g.F.FieldCore.inv (get_or l.values k r.zero));
}
