use Rattle.std.proofs.Common.{map, refl, ◌∙◌, ap}
use Rattle.std.specs.Vec.Iter.{into_iter_items}
use Rattle.p3_field.specs.Laws.Tabulate.{tabulate_push}
use Rattle.p3_lookup.specs.Written.{read_all}
use Rattle.prover_openings.specs.Taken.{chunk_count_at, has_entry_at, has_lookups_at, one_where}
use Rattle.prover_openings.proofs.Left.{left_past, next_taken, none_left}
use Rattle.prover_openings.proofs.Lists.{left_more}
use Rattle.prover_openings.proofs.tables.all_tables.Goals as goal

pub loop-i-init : goal.loop-i-init
loop-i-init g c =
    let lookups = map read_all c.args.common.now.lookups in
    record {
      tables = c.in_ok-tables.ensures.items;
      main = refl;
      quotient = none_left (chunk_count_at c.args.chunk_counts.now) _;
      preprocessed = none_left (λ k. one_where (has_entry_at c.args.common.now.preprocessed k)) _;
      permutation = none_left (λ k. one_where (has_lookups_at lookups k)) _;
    }

pub loop-i-preserved : goal.loop-i-preserved
loop-i-preserved g c =
    let i = c.loop-i.i in
    let inv = c.loop-i.invariant in
    let from = c.args.rounds in
    let left = c.loop-i.left in
    let new = c.next_table.new.left in
    let next = c.in_ok-next_table.ensures in
    let counts = c.args.chunk_counts.now in
    let pre = c.args.common.now.preprocessed in
    let lookups = map read_all c.args.common.now.lookups in
    let entry = c.has_entry-entry.ensures in
    let more = c.has_lookups-lookups.ensures in
    record {
      tables = c.in_ok-push.ensures.items ∙ tabulate_push i _ c.loop-i.tables.items c.in_ok-next_table.field-0 inv.tables
          (next_taken pre lookups counts i (into_iter_items from.main) (into_iter_items left.main) (into_iter_items from.quotient) (into_iter_items left.quotient)
          (into_iter_items from.preprocessed) (into_iter_items left.preprocessed) (into_iter_items from.permutation) (into_iter_items left.permutation)
          inv.main inv.quotient inv.preprocessed inv.permutation c.in_ok-next_table.field-0 _ _ next.table entry more);
      main = left_more i 1 (into_iter_items from.main) (into_iter_items left.main) (into_iter_items new.main) inv.main next.main;
      quotient = left_past (chunk_count_at counts) i _ (into_iter_items from.quotient) (into_iter_items left.quotient) (into_iter_items new.quotient) refl inv.quotient next.quotient;
      preprocessed = left_past (λ k. one_where (has_entry_at pre k)) i _ (into_iter_items from.preprocessed) (into_iter_items left.preprocessed) (into_iter_items new.preprocessed) (ap one_where entry) inv.preprocessed next.preprocessed;
      permutation = left_past (λ k. one_where (has_lookups_at lookups k)) i _ (into_iter_items from.permutation) (into_iter_items left.permutation) (into_iter_items new.permutation) (ap one_where more) inv.permutation next.permutation;
    }
