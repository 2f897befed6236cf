use Rattle.std.proofs.Common.{[], ◌∙◌}
use Rattle.std.proofs.lemmas.Result.{IfOk-weaker, on_err_weaker}
use Rattle.air_core.specs.Laws.Appending.{none_on_err, none_first}
use Rattle.air_core.specs.Laws.Represent.{represent-none, represent-more}
use Rattle.tool_tables.specs.Laws.Words.{first-given, first-taken, given, taken}
use Rattle.tool_tables.proofs.words.WordsAirAir.eval.Goals as goal

-- a table that takes
pub returns-in_err-value-in-Take-clause-on_error : goal.returns-in_err-value-in-Take-clause-on_error
returns-in_err-value-in-Take-clause-on_error g c =
    let then = g.met.AB.AirBuilder.appends_along in
    on_err_weaker _ (first-taken g.AB.AirBuilder.appends g.F.RingCore.ring c.args.self.now _ _ c.in-Take.is)
    (none_on_err g.AB.AirBuilder.appends _ _ _ _ _ (then _ _ _ [] [] [] [] c.cell.ensures.appends c.constant.ensures.appends))

pub returns-in_ok-value-in-Take-clause-appends : goal.returns-in_ok-value-in-Take-clause-appends
returns-in_ok-value-in-Take-clause-appends g c =
    let B = g.met.AB.AirBuilder in
    let x = B.persists _ _ (B.appends_later _ _ _ _ c.constant.ensures.appends) _ _ c.in_ok-word.ensures.represents in
    let then = B.appends_along in
    let count = rw (c.ONE.ensures ∙ g.met.F.RingCore.one_is) at c.in_ok-value-in-Take.ensures.represents in
    IfOk-weaker _ _ _
    (λ _ q. taken g.AB.AirBuilder.appends g.F.RingCore.ring c.args.self.now _ _ c.in-Take.is (then _ _ _ [] [] [] _ c.cell.ensures.appends (then _ _ _ [] [] [] _ c.constant.ensures.appends q)))
    (c.push_interaction.ensures.appends _ _ (represent-more _ _ _ _ _ x (represent-none _)) count)

pub returns-in_ok-value-in-Take-clause-on_error : goal.returns-in_ok-value-in-Take-clause-on_error
returns-in_ok-value-in-Take-clause-on_error g c =
    let then = g.met.AB.AirBuilder.appends_along in
    on_err_weaker _
    (λ q. first-taken g.AB.AirBuilder.appends g.F.RingCore.ring c.args.self.now _ _ c.in-Take.is
    (none_first g.AB.AirBuilder.appends _ _ _ _ (then _ _ _ [] [] [] [] c.cell.ensures.appends (then _ _ _ [] [] [] [] c.constant.ensures.appends q))))
    c.push_interaction.ensures.on_error

-- a table that gives
pub returns-in_err-times-in-Give-clause-on_error : goal.returns-in_err-times-in-Give-clause-on_error
returns-in_err-times-in-Give-clause-on_error g c =
    let then = g.met.AB.AirBuilder.appends_along in
    on_err_weaker _ (first-given g.AB.AirBuilder.appends g.F.RingCore.ring c.args.self.now _ _ c.in-Give.is)
    (none_on_err g.AB.AirBuilder.appends _ _ _ _ _ (then _ _ _ [] [] [] [] c.cell.ensures.appends c.cell-in-Give.ensures.appends))

pub returns-in_err-nothing-in-Give-clause-on_error : goal.returns-in_err-nothing-in-Give-clause-on_error
returns-in_err-nothing-in-Give-clause-on_error g c =
    let then = g.met.AB.AirBuilder.appends_along in
    on_err_weaker _ (first-given g.AB.AirBuilder.appends g.F.RingCore.ring c.args.self.now _ _ c.in-Give.is)
    (none_on_err g.AB.AirBuilder.appends _ _ _ _ _ (then _ _ _ [] [] [] [] c.cell.ensures.appends (then _ _ _ [] [] [] [] c.cell-in-Give.ensures.appends c.constant-in-Give.ensures.appends)))

pub returns-in_err-value-in-Give-clause-on_error : goal.returns-in_err-value-in-Give-clause-on_error
returns-in_err-value-in-Give-clause-on_error g c =
    let then = g.met.AB.AirBuilder.appends_along in
    on_err_weaker _ (first-given g.AB.AirBuilder.appends g.F.RingCore.ring c.args.self.now _ _ c.in-Give.is)
    (none_on_err g.AB.AirBuilder.appends _ _ _ _ _
    (then _ _ _ [] [] [] [] c.cell.ensures.appends (then _ _ _ [] [] [] [] c.cell-in-Give.ensures.appends (then _ _ _ [] [] [] [] c.constant-in-Give.ensures.appends c.sub.ensures.appends))))

pub returns-in_ok-value-in-Give-clause-later : goal.returns-in_ok-value-in-Give-clause-later
returns-in_ok-value-in-Give-clause-later g c =
    let B = g.met.AB.AirBuilder in
    let after = B.appends_later in
    B.later_along _ _ _ (after _ _ _ _ c.cell.ensures.appends)
    (B.later_along _ _ _ (after _ _ _ _ c.cell-in-Give.ensures.appends)
    (B.later_along _ _ _ (after _ _ _ _ c.constant-in-Give.ensures.appends) (B.later_along _ _ _ (after _ _ _ _ c.sub.ensures.appends) c.push_interaction-in-Give.ensures.later)))

pub returns-in_ok-value-in-Give-clause-appends : goal.returns-in_ok-value-in-Give-clause-appends
returns-in_ok-value-in-Give-clause-appends g c =
    let B = g.met.AB.AirBuilder in
    let past_times = B.persists _ _ (B.appends_later _ _ _ _ c.cell-in-Give.ensures.appends) in
    let past_nothing = B.persists _ _ (B.appends_later _ _ _ _ c.constant-in-Give.ensures.appends) in
    let past_value = B.persists _ _ (B.appends_later _ _ _ _ c.sub.ensures.appends) in
    let word = past_value _ _ (past_nothing _ _ (past_times _ _ c.in_ok-word.ensures.represents)) in
    let nothing = rw (c.ZERO.ensures ∙ g.met.F.RingCore.zero_is) at c.in_ok-nothing-in-Give.ensures.represents in
    let count = c.in_ok-value-in-Give.ensures.represents _ _ nothing (past_nothing _ _ c.in_ok-times-in-Give.ensures.represents) in
    let then = B.appends_along in
    IfOk-weaker _ _ _
    (λ _ q. given g.AB.AirBuilder.appends g.F.RingCore.ring c.args.self.now _ _ c.in-Give.is
    (then _ _ _ [] [] [] _ c.cell.ensures.appends
    (then _ _ _ [] [] [] _ c.cell-in-Give.ensures.appends
    (then _ _ _ [] [] [] _ c.constant-in-Give.ensures.appends
    (then _ _ _ [] [] [] _ c.sub.ensures.appends q)))))
    (c.push_interaction-in-Give.ensures.appends _ _ (represent-more _ _ _ _ _ word (represent-none _)) count)

pub returns-in_ok-value-in-Give-clause-on_error : goal.returns-in_ok-value-in-Give-clause-on_error
returns-in_ok-value-in-Give-clause-on_error g c =
    let then = g.met.AB.AirBuilder.appends_along in
    on_err_weaker _
    (λ q. first-given g.AB.AirBuilder.appends g.F.RingCore.ring c.args.self.now _ _ c.in-Give.is
    (none_first g.AB.AirBuilder.appends _ _ _ _
    (then _ _ _ [] [] [] [] c.cell.ensures.appends
    (then _ _ _ [] [] [] [] c.cell-in-Give.ensures.appends
    (then _ _ _ [] [] [] [] c.constant-in-Give.ensures.appends
    (then _ _ _ [] [] [] [] c.sub.ensures.appends q))))))
    c.push_interaction-in-Give.ensures.on_error
