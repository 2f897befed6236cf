use Rattle.std.proofs.Common.{◌<◌, length, arith, refl}
use Rattle.std.proofs.lemmas.List.{length-map}
use Rattle.tool_statement.specs.StatedTables.{log_height_of, log_heights_of}
use Rattle.tool_prover.proofs.Points.{height_there, on_none, on_some, one_further}
use Rattle.tool_prover.proofs.outside.is_outside.Goals as goal

pub returns-then-not-avoids_subgroup : goal.returns-then-not-avoids_subgroup
returns-then-not-avoids_subgroup c =
    let tables = c.args.tables.now in
    let i = c.loop-table.table-index in
    let inside : i < length (log_heights_of tables) = let l = c.loop-table-test.true in omega (arith, l, length-map tables log_height_of) in
    on_some c.args.point (log_heights_of tables) i c.log_height.result inside (height_there tables i c.table-item.result c.log_height.result c.loop-table-test.true c.table-item.is c.log_height.ensures)
    c.if-not-avoids_subgroup.ensures.1

pub loop-table-preserved : goal.loop-table-preserved
loop-table-preserved c =
    let tables = c.args.tables.now in
    let i = c.loop-table.table-index in
    one_further c.args.point (log_heights_of tables) i c.log_height.result (height_there tables i c.table-item.result c.log_height.result c.loop-table-test.true c.table-item.is c.log_height.ensures)
    (c.if-not-avoids_subgroup.ensures.0 refl) c.loop-table.invariant

pub returns : goal.returns
returns c =
    let tables = c.args.tables.now in
    on_none c.args.point (log_heights_of tables) c.loop-table.table-index (let l = c.loop-table-test.false in omega (arith, l, length-map tables log_height_of)) c.loop-table.invariant
