use Rattle.std.proofs.Common.{List, [], ◌++◌, map, subst, append-nil}
use Rattle.std.proofs.lemmas.Result.{IfOk-weaker, on_err_weaker}
use Rattle.air_core.specs.Tree.{Interaction, over_base, over_extension, SomeFirst}
use Rattle.air_core.specs.Laws.Appending.{some_after, some_of_more}
use Rattle.air_core.specs.Laws.Represent.{holds_on_err}
use Rattle.p3_lookup.specs.Written.{read_all}
use Rattle.p3_lookup.specs.Trees.{lookup_trees}
use Rattle.p3_lookup.proofs.gadget.LogUpGadgetLookupProtocol.eval_air_and_lookups.Goals as goal

pub returns-in_err-eval-clause-on_error : goal.returns-in_err-eval-clause-on_error
returns-in_err-eval-clause-on_error g c =
    let G = g.AB.AirBuilder.appends in
    let own = map over_base (g.A.Air.trees c.args.air.now) in
    let more = map over_extension (lookup_trees g.AB.F.RingCore.ring (read_all c.args.lookups.now)) in
    let is = g.A.Air.interactions c.args.air.now in
    holds_on_err _
    (subst (λ (js : List (Interaction g.row.AB-F.Denot)). SomeFirst (G c.args.builder.now c.eval.new.builder) (own ++ more) js) (append-nil is)
    (some_of_more G _ _ own more is [] c.in_err-eval.ensures.on_error))

pub returns-clause-appends : goal.returns-clause-appends
returns-clause-appends g c =
    let G = g.AB.AirBuilder.appends in
    let own = map over_base (g.A.Air.trees c.args.air.now) in
    let more = map over_extension (lookup_trees g.AB.F.RingCore.ring (read_all c.args.lookups.now)) in
    let is = g.A.Air.interactions c.args.air.now in
    IfOk-weaker _ _ _
    (λ _ q. subst (λ (js : List (Interaction g.row.AB-F.Denot)). G c.args.builder.now c.assert_lookups.new.builder (own ++ more) js) (append-nil is)
    (g.met.AB.AirBuilder.appends_along _ _ _ own more is [] c.in_ok-eval.ensures.appends q))
    c.assert_lookups.ensures.appends

pub returns-clause-on_error : goal.returns-clause-on_error
returns-clause-on_error g c =
    let G = g.AB.AirBuilder.appends in
    let own = map over_base (g.A.Air.trees c.args.air.now) in
    let more = map over_extension (lookup_trees g.AB.F.RingCore.ring (read_all c.args.lookups.now)) in
    let is = g.A.Air.interactions c.args.air.now in
    on_err_weaker _
    (λ q. subst (λ (js : List (Interaction g.row.AB-F.Denot)). SomeFirst (G c.args.builder.now c.assert_lookups.new.builder) (own ++ more) js) (append-nil is)
    (some_after g.met.AB.AirBuilder.appends_along _ _ _ own more is [] c.in_ok-eval.ensures.appends q))
    c.assert_lookups.ensures.on_error
