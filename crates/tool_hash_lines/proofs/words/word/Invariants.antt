use Rattle.std.proofs.Common.{◌≡◌, ℕ, ◌+◌, ◌≤◌, ◌<◌, map}
use Rattle.air_gadgets.specs.Words.{bits_number}
use Rattle.tool_hash_lines.specs.Columns.{polynomial_cells_at}
use Rattle.tool_hash_lines.specs.RowWords.{cell_number}
use Rattle.tool_hash_lines.proofs.words.word.Given as goal

abbrev pub invariant-loop-bit : goal.invariant-loop-bit
invariant-loop-bit l = let cells = polynomial_cells_at (map (λ f. f.items) l.polynomials) l.point in
    record {
      within : l.bit ≤ 32;
      bits : (b : ℕ) → l.bit ≤ b → b < 32 → cell_number cells (l.column + b) < 2;
      so_far : (n : ℕ) → l.bit + n ≡ 32 → l.number ≡ bits_number (λ b. cell_number cells (l.column + b)) l.bit n;
    }

abbrev pub decreases-loop-bit : goal.decreases-loop-bit
decreases-loop-bit l = l.bit
