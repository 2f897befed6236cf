use Rattle.std.proofs.Common.{◌≡◌, ◌++◌, map, take}
use Rattle.tool_hash_lines.specs.Columns.{polynomial_cells_at}
use Rattle.tool_balance.proofs.rows.push_cells.Given as goal

abbrev pub invariant-loop-polynomial : goal.invariant-loop-polynomial
invariant-loop-polynomial l = l.cells.items ≡ l.initial.cells.items ++ polynomial_cells_at (map (λ f. f.items) (take l.polynomial-index l.polynomials)) l.point
