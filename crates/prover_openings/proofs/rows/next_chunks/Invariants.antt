use Rattle.std.proofs.Common.{◌≡◌, [], drop, get_or, map}
use Rattle.std.specs.Vec.Iter.{into_iter_items}
use Rattle.p3_field.specs.Poly.{tabulate}
use Rattle.prover_openings.specs.Rows.{first_list, matrices_in}
use Rattle.prover_openings.proofs.rows.next_chunks.Given as goal

abbrev pub invariant-loop-j : goal.invariant-loop-j
invariant-loop-j g l = record {
  rows : map (λ x. x.items) l.rows.items ≡ tabulate l._j (λ j. first_list (get_or (matrices_in (into_iter_items l.initial.matrices)) j []));
  left : into_iter_items l.matrices ≡ drop l._j (into_iter_items l.initial.matrices);
}
