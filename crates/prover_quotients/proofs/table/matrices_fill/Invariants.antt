use Rattle.std.proofs.Common.{ℕ, ◌<◌, get_or}
use Rattle.p3_matrix.specs.Matrix.{FillsRows, Rows}
use Rattle.prover_quotients.proofs.table.matrices_fill.Given as goal

abbrev pub invariant-loop-chunk : goal.invariant-loop-chunk
invariant-loop-chunk g l = (k : ℕ) (d : g.row.D.Denot × Rows g.row.F.Denot) → k < l.chunk-index → FillsRows (get_or l.chunks k d).1.values (get_or l.chunks k d).1.width
