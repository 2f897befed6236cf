use Rattle.std.proofs.Common.{◌≡◌, length, map, take}
use Rattle.p3_matrix.specs.Matrix.{height, row_at}
use Rattle.commit_rows.specs.Batches.{lists, row_in}
use Rattle.plain_pcs.proofs.rows.rows_of.Given as goal

abbrev pub invariant-loop-m : goal.invariant-loop-m
invariant-loop-m g l = (lists l.rows.items ≡ map (λ m. row_at m (row_in l.most (height m) l.index)) (take l.m-index l.matrices))
    × (map (λ row. length row) (lists l.rows.items) ≡ map (λ m. m.width) (take l.m-index l.matrices))
