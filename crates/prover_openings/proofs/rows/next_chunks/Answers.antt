use Rattle.std.proofs.Common.{map, ◌∙◌, ap}
use Rattle.prover_openings.specs.Rows.{first_list}
use Rattle.prover_openings.proofs.Lists.{first_left, left_more, map_tabulate_push}
use Rattle.prover_openings.proofs.rows.next_chunks.Goals as goal

pub loop-j-preserved : goal.loop-j-preserved
loop-j-preserved g c =
    let inv = c.loop-j.invariant in
    record {
      rows = map_tabulate_push (λ x. x.items) c.loop-j._j _ c.loop-j.rows.items _ c.next_row.result c.in_ok-push.ensures.items inv.rows
          (c.next_row.ensures.row ∙ ap first_list (first_left (λ m. map (λ v. v.items) m.items) c.loop-j._j _ _ inv.left));
      left = left_more c.loop-j._j 1 _ _ _ inv.left c.next_row.ensures.rest;
    }
