use Rattle.std.proofs.Common.{[], ◌∷◌}
use Rattle.p3_field.specs.Laws.Checks.{first_stops}
use Rattle.verifier_shape.specs.ShapeChecks.{permutation_width_check, terminal_presence_check}
use Rattle.verifier_shape.specs.Laws.Verdicts.{decided_after, exits_decided}
use Rattle.verifier_shape.proofs.opened.check_lookup_rows.Goals as goal

pub returns-in_err-check_permutation_width : goal.returns-in_err-check_permutation_width
returns-in_err-check_permutation_width g c =
    let a = c.args in
    exits_decided _ _ _ c.from_residual.ensures.1
    (first_stops (permutation_width_check a.index a.lookups a.dimension a.opened.now ∷ []) (terminal_presence_check a.index a.lookups a.terminal ∷ []) _ c.in_err-check_permutation_width.ensures)

pub returns : goal.returns
returns g c =
    let a = c.args in
    decided_after (permutation_width_check a.index a.lookups a.dimension a.opened.now ∷ []) (terminal_presence_check a.index a.lookups a.terminal ∷ []) _ c.in_ok-check_permutation_width.ensures
    c.check_terminal_presence.ensures
