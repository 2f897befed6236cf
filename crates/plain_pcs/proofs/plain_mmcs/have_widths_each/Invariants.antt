use Rattle.std.proofs.Common.{take}
use Rattle.std.specs.Prelude.{All}
use Rattle.commit_rows.specs.Batches.{lists, HaveWidths}
use Rattle.plain_pcs.proofs.plain_mmcs.have_widths_each.Given as goal

abbrev pub invariant-loop-rows : goal.invariant-loop-rows
invariant-loop-rows g l = All (λ rows. HaveWidths l.dimensions (lists rows.items)) (take l.rows-index l.openings)
