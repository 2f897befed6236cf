use Rattle.std.proofs.lemmas.Result.{IfOk-weaker, on_err_weaker}
use Rattle.std.proofs.Common.{[], ◌∷◌}
use Rattle.air_core.specs.Laws.Represent.{holds_on_err}
use Rattle.air_core.specs.Laws.Appending.{none_first, none_on_err, some_after}
use Rattle.example_fib_air.proofs.air.FibAirAir.eval.Goals as goal

pub returns-clause-appends : goal.returns-clause-appends
returns-clause-appends g c =
    let then = g.met.AB.AirBuilder.appends_along in
    IfOk-weaker _ _ _
    (λ _ p. then _ _ _ (_ ∷ []) _ [] [] c.in_ok-assert_cells_eq_when.ensures.appends
    (then _ _ _ (_ ∷ []) _ [] [] c.in_ok-assert_cells_eq_when-2.ensures.appends
    (then _ _ _ (_ ∷ []) _ [] [] c.in_ok-assert_cells_eq_when-3.ensures.appends
    (then _ _ _ (_ ∷ []) _ [] [] c.in_ok-assert_sum_when.ensures.appends p))))
    c.assert_cells_eq_when-4.ensures.appends

pub returns-in_err-assert_cells_eq_when-clause-on_error : goal.returns-in_err-assert_cells_eq_when-clause-on_error
returns-in_err-assert_cells_eq_when-clause-on_error g c = none_on_err g.AB.AirBuilder.appends _ _ _ _ _ c.in_err-assert_cells_eq_when.ensures.on_error

pub returns-in_err-assert_cells_eq_when-2-clause-on_error : goal.returns-in_err-assert_cells_eq_when-2-clause-on_error
returns-in_err-assert_cells_eq_when-2-clause-on_error g c =
    let then = some_after g.met.AB.AirBuilder.appends_along in
    holds_on_err _
    (then _ _ _ (_ ∷ []) _ [] [] c.in_ok-assert_cells_eq_when.ensures.appends
    (none_first g.AB.AirBuilder.appends _ _ _ _ c.in_err-assert_cells_eq_when-2.ensures.on_error))

pub returns-in_err-assert_cells_eq_when-3-clause-on_error : goal.returns-in_err-assert_cells_eq_when-3-clause-on_error
returns-in_err-assert_cells_eq_when-3-clause-on_error g c =
    let then = some_after g.met.AB.AirBuilder.appends_along in
    holds_on_err _
    (then _ _ _ (_ ∷ []) _ [] [] c.in_ok-assert_cells_eq_when.ensures.appends
    (then _ _ _ (_ ∷ []) _ [] [] c.in_ok-assert_cells_eq_when-2.ensures.appends
    (none_first g.AB.AirBuilder.appends _ _ _ _ c.in_err-assert_cells_eq_when-3.ensures.on_error)))

pub returns-in_err-assert_sum_when-clause-on_error : goal.returns-in_err-assert_sum_when-clause-on_error
returns-in_err-assert_sum_when-clause-on_error g c =
    let then = some_after g.met.AB.AirBuilder.appends_along in
    holds_on_err _
    (then _ _ _ (_ ∷ []) _ [] [] c.in_ok-assert_cells_eq_when.ensures.appends
    (then _ _ _ (_ ∷ []) _ [] [] c.in_ok-assert_cells_eq_when-2.ensures.appends
    (then _ _ _ (_ ∷ []) _ [] [] c.in_ok-assert_cells_eq_when-3.ensures.appends
    (none_first g.AB.AirBuilder.appends _ _ _ _ c.in_err-assert_sum_when.ensures.on_error))))

pub returns-clause-on_error : goal.returns-clause-on_error
returns-clause-on_error g c =
    let then = some_after g.met.AB.AirBuilder.appends_along in
    on_err_weaker _
    (λ p. then _ _ _ (_ ∷ []) (_ ∷ _ ∷ _ ∷ _ ∷ []) [] [] c.in_ok-assert_cells_eq_when.ensures.appends
    (then _ _ _ (_ ∷ []) (_ ∷ _ ∷ _ ∷ []) [] [] c.in_ok-assert_cells_eq_when-2.ensures.appends
    (then _ _ _ (_ ∷ []) (_ ∷ _ ∷ []) [] [] c.in_ok-assert_cells_eq_when-3.ensures.appends
    (then _ _ _ (_ ∷ []) (_ ∷ []) [] [] c.in_ok-assert_sum_when.ensures.appends
    (none_first g.AB.AirBuilder.appends _ _ _ _ p)))))
    c.assert_cells_eq_when-4.ensures.on_error
