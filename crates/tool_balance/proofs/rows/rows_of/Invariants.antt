use Rattle.std.proofs.Common.{◌≡◌, length, map}
use Rattle.p3_field.specs.BabyBear.{baby_bear_ring, baby_bear_root}
use Rattle.p3_field.specs.Domain.{point, subgroup}
use Rattle.p3_matrix.specs.Laws.Transposed.{HasRows}
use Rattle.tool_hash_lines.specs.Columns.{polynomial_cells_at}
use Rattle.tool_balance.proofs.rows.rows_of.Given as goal

abbrev pub invariant-loop-row : goal.invariant-loop-row
invariant-loop-row l =
    HasRows l.cells.items l.row (length l.polynomials) (λ k row. row ≡ polynomial_cells_at (map (λ f. f.items) l.polynomials) (point baby_bear_ring baby_bear_root (subgroup baby_bear_ring l.k) k))
