use Rattle.std.proofs.Common.{◌≡◌, ◌<◌, ℕ, map, ◌∙◌, subst, below_more, arith}
use Rattle.p3_field.specs.Poly.{tabulate}
use Rattle.p3_field.specs.Laws.Tabulate.{tabulate_push}
use Rattle.tool_hash_lines.specs.Columns.{polynomial_cells_at}
use Rattle.tool_hash_lines.specs.RowWords.{HasBitCells, printed_words, word_at, word_column}
use Rattle.tool_hash_lines.proofs.words.row_words.Goals as goal

pub loop-i-preserved : goal.loop-i-preserved
loop-i-preserved c =
    let cells = polynomial_cells_at (map (λ f. f.items) c.args.polynomials.now) c.args.point in
    let i = c.loop-i.i in
    let read = subst (λ (j : ℕ). HasBitCells cells j × (c.in-Some.read ≡ word_at cells j)) c.first_column.ensures c.in-Some.ensures in
    record {
      bits = below_more (λ w. HasBitCells cells (word_column w)) i c.loop-i.invariant.bits read.0;
      so_far = c.in_ok-push-in-Some.ensures.items ∙ tabulate_push i (λ w. word_at cells (word_column w)) c.loop-i.words.items c.in-Some.read c.loop-i.invariant.so_far read.1;
    }

pub returns : goal.returns
unfolding printed_words
returns c =
    let cells = polynomial_cells_at (map (λ f. f.items) c.args.polynomials.now) c.args.point in
    let done : c.loop-i.i ≡ 44 = omega arith in
    subst (λ (n : ℕ). ((w : ℕ) → w < n → HasBitCells cells (word_column w)) × (c.loop-i.words.items ≡ tabulate n (λ w. word_at cells (word_column w)))) done
    (c.loop-i.invariant.bits, c.loop-i.invariant.so_far)
