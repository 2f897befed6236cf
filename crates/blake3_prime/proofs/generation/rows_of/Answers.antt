use Rattle.std.proofs.Common.{ℕ, List, [], length, arith, sym, subst}
use Rattle.air_core.specs.Joined.{joined}
use Rattle.blake3_compress.specs.TraceRow.{row_cells}
use Rattle.blake3_compress.specs.Generated.{Pushed, input_of}
use Rattle.blake3_prime.specs.Rows.{compression_input, rows_cells}
use Rattle.blake3_compress.specs.Laws.Pushing.{push_none, push_more, push_all}
use Rattle.blake3_prime.proofs.generation.rows_of.Goals as goal

pub loop-i-init : goal.loop-i-init
loop-i-init g c =
    let r = g.F.RingCore.ring in
    let t : ℕ → List ℕ = λ i. row_cells (input_of (compression_input c.args.inputs.now i)) in
    subst (λ xs. Pushed r [] xs (joined 0 t)) (sym c.in_ok-values.ensures.items) (push_none r [] t)

pub loop-i-preserved : goal.loop-i-preserved
loop-i-preserved g c =
    let r = g.F.RingCore.ring in
    push_more r c.loop-i.i (λ i. row_cells (input_of (compression_input c.args.inputs.now i))) c.loop-i.invariant
    (subst (λ ws. Pushed r c.loop-i.values.items c.push_row.new.values.items (row_cells (input_of ws))) c.row_words.ensures c.in_ok-push_row.ensures)

pub returns : goal.returns
unfolding rows_cells
returns g c =
    (push_all g.F.RingCore.ring [] _ c.loop-i.i (length c.args.inputs.now) (λ i. row_cells (input_of (compression_input c.args.inputs.now i))) (omega arith) c.loop-i.invariant).pushed
