use Rattle.std.proofs.Common.{◌≡◌, ℕ, List, ◌++◌, OnOk, length, map, sym, ◌∙◌, ap, subst, arith}
use Rattle.tool_hash_lines.specs.Columns.{polynomial_cells_at}
use Rattle.tool_hash_lines.specs.Laws.Readable.{length-printed_words, readable_line, unreadable_is}
use Rattle.tool_hash_lines.specs.RowText.{row_line, words_line}
use Rattle.tool_hash_lines.proofs.rows.push_row.Goals as goal

pub push_words-requires : goal.push_words-requires
push_words-requires c =
    let cells = polynomial_cells_at (map (λ f. f.items) c.args.polynomials.now) c.args.point in
    let read = rw c.in-Some.is at c.in_ok-words.ensures in
    let long : length c.deref.result.now ≡ 44 = ap length (c.deref.ensures.value ∙ read.1) ∙ length-printed_words cells in
    omega (arith, long)

pub returns-in-Some : goal.returns-in-Some
returns-in-Some c =
    let cells = polynomial_cells_at (map (λ f. f.items) c.args.polynomials.now) c.args.point in
    let read = rw c.in-Some.is at c.in_ok-words.ensures in
    let line : words_line c.deref.result.now ≡ row_line c.args.row cells = ap words_line (c.deref.ensures.value ∙ read.1) ∙ sym (readable_line c.args.row cells read.0) in
    subst (λ (t : List ℕ). OnOk c.push_words.result (c.push_words.new.text.items ≡ c.args.text.now.items ++ t)) line c.push_words.ensures

pub returns-in-None : goal.returns-in-None
returns-in-None c =
    let cells = polynomial_cells_at (map (λ f. f.items) c.args.polynomials.now) c.args.point in
    let none = rw c.in-None.is at c.in_ok-words.ensures in
    subst (λ (t : List ℕ). OnOk c.push_unreadable.result (c.push_unreadable.new.text.items ≡ c.args.text.now.items ++ t)) (sym (unreadable_is c.args.row cells none)) c.push_unreadable.ensures
