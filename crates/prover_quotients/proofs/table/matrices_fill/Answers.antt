use Rattle.std.proofs.Common.{arith}
use Rattle.p3_matrix.specs.Matrix.{FillsRows, Rows}
use Rattle.verifier_shape.specs.Laws.Items.{all_more}
use Rattle.prover_quotients.proofs.table.matrices_fill.Goals as goal

pub loop-chunk-preserved : goal.loop-chunk-preserved
loop-chunk-preserved g c =
    all_more (λ (e : g.row.D.Denot × Rows g.row.F.Denot). FillsRows e.1.values e.1.width) c.args.chunks.now c.loop-chunk.chunk-index c.chunk-item.result
    c.loop-chunk-test.true c.chunk-item.is c.height-height.ensures.fills c.loop-chunk.invariant

pub returns : goal.returns
returns g c = λ k d h. c.loop-chunk.invariant k d (omega (arith, h, c.loop-chunk-test.false))
