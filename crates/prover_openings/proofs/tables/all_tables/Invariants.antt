use Rattle.std.proofs.Common.{◌≡◌, drop, map}
use Rattle.std.specs.Vec.Iter.{into_iter_items}
use Rattle.p3_field.specs.Poly.{tabulate}
use Rattle.p3_lookup.specs.Written.{read_all}
use Rattle.prover_openings.specs.Rows.{matrices_in}
use Rattle.prover_openings.specs.Taken.{chunk_count_at, count_below, has_entry_at, has_lookups_at, one_where, taken_at}
use Rattle.prover_openings.proofs.tables.all_tables.Given as goal

abbrev pub invariant-loop-i : goal.invariant-loop-i
invariant-loop-i g l =
    let from = l.fn.rounds in
    let lookups = map read_all l.common.lookups in
    record {
      tables : l.tables.items ≡ tabulate l.i (taken_at l.common.preprocessed lookups l.chunk_counts
          (record { main = matrices_in (into_iter_items from.main); quotient = matrices_in (into_iter_items from.quotient); preprocessed = matrices_in (into_iter_items from.preprocessed); permutation = matrices_in (into_iter_items from.permutation) }));
      main : into_iter_items l.left.main ≡ drop l.i (into_iter_items from.main);
      quotient : into_iter_items l.left.quotient ≡ drop (count_below (chunk_count_at l.chunk_counts) l.i) (into_iter_items from.quotient);
      preprocessed : into_iter_items l.left.preprocessed ≡ drop (count_below (λ k. one_where (has_entry_at l.common.preprocessed k)) l.i) (into_iter_items from.preprocessed);
      permutation : into_iter_items l.left.permutation ≡ drop (count_below (λ k. one_where (has_lookups_at lookups k)) l.i) (into_iter_items from.permutation);
    }
