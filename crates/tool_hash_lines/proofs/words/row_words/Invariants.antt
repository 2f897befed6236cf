use Rattle.std.proofs.Common.{◌≡◌, ℕ, ◌<◌, map}
use Rattle.p3_field.specs.Poly.{tabulate}
use Rattle.tool_hash_lines.specs.Columns.{polynomial_cells_at}
use Rattle.tool_hash_lines.specs.RowWords.{HasBitCells, word_at, word_column}
use Rattle.tool_hash_lines.proofs.words.row_words.Given as goal

abbrev pub invariant-loop-i : goal.invariant-loop-i
invariant-loop-i l = let cells = polynomial_cells_at (map (λ f. f.items) l.polynomials) l.point in
    record {
      bits : (w : ℕ) → w < l.i → HasBitCells cells (word_column w);
      so_far : l.words.items ≡ tabulate l.i (λ w. word_at cells (word_column w));
    }
