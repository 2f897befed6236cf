use Rattle.std.proofs.Common.{◌≡◌, ◌<◌, List, [], length, map, subst, arith}
use Rattle.std.proofs.lemmas.List.{length-map}
use Rattle.std.proofs.lemmas.Result.{IfOk-weaker, on_err_weaker}
use Rattle.air_core.specs.Tree.{Asserted, over_extension, SomeFirst}
use Rattle.air_core.specs.Laws.Appending.{some_after, some_of_more}
use Rattle.air_core.specs.Laws.Represent.{holds_on_err}
use Rattle.p3_lookup.specs.Written.{read, read_all}
use Rattle.p3_lookup.specs.Trees.{fraction_trees, running_trees}
use Rattle.p3_lookup.proofs.Turns.{lookup_trees_are, some_item}
use Rattle.p3_lookup.proofs.gadget.assert_lookups.Goals as goal

pub returns-in_err-assert_fractions-clause-on_error : goal.returns-in_err-assert_fractions-clause-on_error
returns-in_err-assert_fractions-clause-on_error g c =
    let G = g.AB.AirBuilder.appends in
    let r = g.AB.F.RingCore.ring in
    let ls = read_all c.args.lookups.now in
    let n = length c.args.lookups.now in
    let long : length ls ≡ n = length-map c.args.lookups.now read in
    let some : 0 < length ls = omega (arith, long, some_item n c.if-is_empty.ensures) in
    holds_on_err _
    (subst (λ (ts : List (Asserted g.row.AB-F.Denot)). SomeFirst (G c.args.builder.now c.assert_fractions.new.builder) ts []) (lookup_trees_are r ls n some long)
    (some_of_more G _ _ (map over_extension (fraction_trees r 0 ls)) (map over_extension (running_trees r n)) [] [] c.in_err-assert_fractions.ensures.on_error))

pub returns-clause-appends : goal.returns-clause-appends
returns-clause-appends g c =
    let G = g.AB.AirBuilder.appends in
    let r = g.AB.F.RingCore.ring in
    let ls = read_all c.args.lookups.now in
    let n = length c.args.lookups.now in
    let long : length ls ≡ n = length-map c.args.lookups.now read in
    let some : 0 < length ls = omega (arith, long, some_item n c.if-is_empty.ensures) in
    IfOk-weaker _ _ _
    (λ _ q. subst (λ (ts : List (Asserted g.row.AB-F.Denot)). G c.args.builder.now c.assert_running.new.builder ts []) (lookup_trees_are r ls n some long)
    (g.met.AB.AirBuilder.appends_along _ _ _ _ _ [] [] c.in_ok-assert_fractions.ensures.appends q))
    c.assert_running.ensures.appends

pub returns-clause-on_error : goal.returns-clause-on_error
returns-clause-on_error g c =
    let G = g.AB.AirBuilder.appends in
    let r = g.AB.F.RingCore.ring in
    let ls = read_all c.args.lookups.now in
    let n = length c.args.lookups.now in
    let long : length ls ≡ n = length-map c.args.lookups.now read in
    let some : 0 < length ls = omega (arith, long, some_item n c.if-is_empty.ensures) in
    on_err_weaker _
    (λ q. subst (λ (ts : List (Asserted g.row.AB-F.Denot)). SomeFirst (G c.args.builder.now c.assert_running.new.builder) ts []) (lookup_trees_are r ls n some long)
    (some_after g.met.AB.AirBuilder.appends_along _ _ _ _ _ [] [] c.in_ok-assert_fractions.ensures.appends q))
    c.assert_running.ensures.on_error
