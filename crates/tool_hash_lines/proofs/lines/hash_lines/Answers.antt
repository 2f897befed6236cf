use Rattle.std.proofs.Common.{◌≡◌, ℕ, [], length, get_or, ◌∙◌, ap, arith}
use Rattle.air_core.specs.Joined.{joined}
use Rattle.tool_statement.specs.declared.table.TableStatement.TheVariants.{Take}
use Rattle.tool_hash_lines.proofs.Appending.{one_more}
use Rattle.tool_hash_lines.specs.PrintedRows.{printed_rows, table_lines}
use Rattle.tool_hash_lines.proofs.lines.hash_lines.Goals as goal

pub loop-table-init : goal.loop-table-init
unfolding joined
loop-table-init c = c.new-text.ensures.items

pub loop-table-preserved : goal.loop-table-preserved
loop-table-preserved c =
    let line = λ (i : ℕ). table_lines c.args.tables.now c.args.proof.now i (get_or c.args.tables.now i (Take 0)) in
    one_more c.loop-table.table line [] c.loop-table.text.items c.push_table.new.text.items c.loop-table.invariant c.in_ok-push_table.ensures

pub returns : goal.returns
unfolding printed_rows
returns c =
    let line = λ (i : ℕ). table_lines c.args.tables.now c.args.proof.now i (get_or c.args.tables.now i (Take 0)) in
    let last : c.loop-table.table ≡ length c.args.tables.now = omega arith in
    c.loop-table.invariant ∙ ap (λ n. joined n line) last
