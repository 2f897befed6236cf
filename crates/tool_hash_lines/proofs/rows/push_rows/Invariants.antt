use Rattle.std.proofs.Common.{◌≡◌, ◌++◌, map}
use Rattle.air_core.specs.Joined.{joined}
use Rattle.p3_field.specs.BabyBear.{baby_bear_ring, baby_bear_root}
use Rattle.p3_field.specs.Domain.{point}
use Rattle.tool_hash_lines.specs.Columns.{polynomial_cells_at}
use Rattle.tool_hash_lines.specs.RowText.{row_line}
use Rattle.tool_hash_lines.proofs.rows.push_rows.Given as goal

abbrev pub invariant-loop-row : goal.invariant-loop-row
invariant-loop-row l = l.text.items ≡ l.initial.text.items ++ joined l.row (λ row. row_line row (polynomial_cells_at (map (λ f. f.items) l.polynomials) (point baby_bear_ring baby_bear_root l.domain row)))
