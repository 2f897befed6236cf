use Rattle.std.proofs.Common.{arith, ◌∙◌, ap, sym, subst}
use Rattle.tool_lines.specs.Texts.{Reads}
use Rattle.tool_lines.specs.Laws.Stops.{handed-on, own-items, pair-first, pair-second, pair-reads, same-reads, same-stops, then-first, then-second, then-reads}
use Rattle.tool_statement.specs.StatedTables.{TableWithin}
use Rattle.tool_statement.specs.declared.table.TableStatement.{TableStatement}
use Rattle.tool_proof_files.specs.Files.{table_statement, statement_numbers}
use Rattle.tool_proof_files.specs.Laws.Tables.{RestWithin, kind-grammar, ordered_rows, rest-grammar, rows-grammar, same-table, values-grammar}
use Rattle.tool_proof_files.proofs.Parts.{rows-reads, rows-stops, values-reads, values-stops}
use Rattle.tool_proof_files.proofs.table.StatedTableForm.read.Goals as goal

pub number-requires-2 : goal.number-requires-2
number-requires-2 c =
    let low = c.least_rows.ensures in
    let high = c.most_rows.ensures in
    let h = ordered_rows c.in_ok-kind.kind in
    omega (arith, low, high, h)

pub returns-in_err-kind : goal.returns-in_err-kind
returns-in_err-kind c = handed-on (λ v. v) TableWithin statement_numbers _ _ _ c.in_err-kind.field-0.0 c.from_residual.ensures.1
    (λ m. same-stops same-table (pair-first RestWithin (λ kind h. rest-grammar kind) c.in_err-kind.ensures.1))

pub returns-in_err-k : goal.returns-in_err-k
returns-in_err-k c = handed-on (λ v. v) TableWithin statement_numbers _ _ _ c.in_err-k.field-0.0 c.from_residual-in_err-k.ensures.1
    (λ m. same-stops same-table (pair-second RestWithin kind-grammar c.in_ok-kind.ensures
    (then-first (values-grammar c.in_ok-kind.kind) (rows-stops c.in_ok-kind.kind c.least_rows.result c.most_rows.result c.least_rows.ensures c.most_rows.ensures c.in_err-k.ensures.1))))

pub returns-in_err-values : goal.returns-in_err-values
returns-in_err-values c =
    let kind = c.in_ok-kind.kind in
    handed-on (λ v. v) TableWithin statement_numbers _ _ _ c.in_err-values.field-0.0 c.from_residual-in_err-values.ensures.1
    (λ m. same-stops same-table (pair-second RestWithin kind-grammar c.in_ok-kind.ensures
    (then-second (rows-grammar kind) (rows-reads kind c.least_rows.result c.most_rows.result c.in_ok-k.k c.least_rows.ensures c.most_rows.ensures c.in_ok-k.ensures)
    (values-stops kind c.public_values.result c.public_values.ensures (c.in_err-values.ensures m)))))

pub returns : goal.returns
unfolding same-table
returns c =
    let kind = c.in_ok-kind.kind in
    subst (λ (t : TableStatement). Reads TableWithin statement_numbers c.args.reader.now c.read_items.new.reader t) (sym (c.table_of.ensures ∙ ap (table_statement kind c.in_ok-k.k) c.deref.ensures.value))
    (same-reads same-table (pair-reads RestWithin c.in_ok-kind.ensures
    (then-reads (rows-reads kind c.least_rows.result c.most_rows.result c.in_ok-k.k c.least_rows.ensures c.most_rows.ensures c.in_ok-k.ensures)
    (values-reads kind c.public_values.result c.in_ok-values.values.items c.public_values.ensures (own-items c.in_ok-values.values.items c.in_ok-values.ensures)))))
