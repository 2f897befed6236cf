use Rattle.std.proofs.Common.{◌≡◌, ℕ, arith}
use Rattle.p3_field.specs.Laws.Checks.{refused_in_turn, none_in_turn, none_of_none, none_until}
use Rattle.verifier_shape.specs.Laws.Verdicts.{exits_decided}
use Rattle.verifier_shape.proofs.tables.check_tables.Goals as goal

pub loop-index-init : goal.loop-index-init
loop-index-init g c = none_of_none _

pub returns-in_err-check_table : goal.returns-in_err-check_table
returns-in_err-check_table g c =
    exits_decided _ _ _ c.from_residual.ensures.1 (refused_in_turn _ c.loop-index.index _ _ (omega arith) c.loop-index.invariant c.in_err-check_table.ensures)

pub loop-index-preserved : goal.loop-index-preserved
loop-index-preserved g c = none_in_turn _ c.loop-index.index c.loop-index.invariant c.in_ok-check_table.ensures

pub returns : goal.returns
returns g c = none_until _ c.loop-index.index _ (omega arith) c.loop-index.invariant
