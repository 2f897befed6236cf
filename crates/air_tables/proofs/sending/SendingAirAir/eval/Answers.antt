use Rattle.std.proofs.lemmas.Result.{IfOk-weaker, on_err_weaker}
use Rattle.std.proofs.Common.{[], ◌∷◌, ◌∙◌}
use Rattle.air_core.specs.Laws.Represent.{holds_on_err}
use Rattle.air_core.specs.Laws.Appending.{none_first, none_on_err, some_after}
use Rattle.air_tables.proofs.sending.SendingAirAir.eval.Goals as goal

pub returns-clause-appends : goal.returns-clause-appends
returns-clause-appends g c =
    let then = g.met.AB.AirBuilder.appends_along in
    let words = rw (c.ONE.ensures ∙ g.met.F.RingCore.one_is) at c.in_ok-send_words.ensures.appends in
    let cells = rw (c.ONE-2.ensures ∙ g.met.F.RingCore.one_is) at c.send_cells.ensures.appends in
    IfOk-weaker _ _ _
    (λ _ p. then _ _ _ (_ ∷ []) [] [] _ c.in_ok-assert_product.ensures.appends (then _ _ _ [] [] (_ ∷ []) (_ ∷ []) words p))
    cells

pub returns-in_err-assert_product-clause-on_error : goal.returns-in_err-assert_product-clause-on_error
returns-in_err-assert_product-clause-on_error g c = none_on_err g.AB.AirBuilder.appends _ _ _ _ _ c.in_err-assert_product.ensures.on_error

pub returns-in_err-send_words-clause-on_error : goal.returns-in_err-send_words-clause-on_error
returns-in_err-send_words-clause-on_error g c =
    let then = some_after g.met.AB.AirBuilder.appends_along in
    holds_on_err _
    (then _ _ _ (_ ∷ []) [] [] _ c.in_ok-assert_product.ensures.appends
    (none_first g.AB.AirBuilder.appends _ _ _ _ c.in_err-send_words.ensures.on_error))

pub returns-clause-on_error : goal.returns-clause-on_error
returns-clause-on_error g c =
    let then = some_after g.met.AB.AirBuilder.appends_along in
    let words = rw (c.ONE.ensures ∙ g.met.F.RingCore.one_is) at c.in_ok-send_words.ensures.appends in
    on_err_weaker _
    (λ p. then _ _ _ (_ ∷ []) [] [] (_ ∷ _ ∷ []) c.in_ok-assert_product.ensures.appends
    (then _ _ _ [] [] (_ ∷ []) (_ ∷ []) words
    (none_first g.AB.AirBuilder.appends _ _ _ _ p)))
    c.send_cells.ensures.on_error
