use Rattle.std.proofs.Common.{◌≡◌, List, [], map, ◌∙◌, ap, subst}
use Rattle.std.proofs.lemmas.Result.{IfOk-weaker, on_err_weaker}
use Rattle.air_core.specs.Laws.Represent.{holds_on_err}
use Rattle.air_core.specs.Tree.{Tree}
use Rattle.air_core.specs.Symbolic.{tree_of}
use Rattle.p3_lookup.specs.Lookup.{Sent, pair_up, sent}
use Rattle.p3_lookup.specs.Written.{Written, read, tree_count}
use Rattle.p3_lookup.specs.Trees.{base_tree, beta_tree}
use Rattle.p3_lookup.specs.Emission.{ArePartsOf}
use Rattle.p3_lookup.proofs.emission.assert_fraction.Goals as goal

pub returns-in_err-parts-clause-on_error : goal.returns-in_err-parts-clause-on_error
returns-in_err-parts-clause-on_error g c =
    holds_on_err _ (g.met.AB.AirBuilder.appends_along _ _ _ [] [] [] [] c.lookup_challenges.ensures.appends c.fraction_parts.ensures.appends)

pub returns-in_err-difference-clause-on_error : goal.returns-in_err-difference-clause-on_error
returns-in_err-difference-clause-on_error g c =
    let then = g.met.AB.AirBuilder.appends_along in
    holds_on_err _ (then _ _ _ [] [] [] [] c.lookup_challenges.ensures.appends (then _ _ _ [] [] [] [] c.fraction_parts.ensures.appends c.scaled_less.ensures.appends))

pub returns-clause-on_error : goal.returns-clause-on_error
returns-clause-on_error g c =
    let then = g.met.AB.AirBuilder.appends_along in
    on_err_weaker _
    (λ q. then _ _ _ [] [] [] [] c.lookup_challenges.ensures.appends
    (then _ _ _ [] [] [] [] c.fraction_parts.ensures.appends
    (then _ _ _ [] [] [] [] c.scaled_less.ensures.appends q)))
    c.assert_zero_ext.ensures.on_error

pub returns-clause-appends : goal.returns-clause-appends
returns-clause-appends g c =
    let B = g.met.AB.AirBuilder in
    let X = g.met.AB.ExtensionBuilder in
    let then = B.appends_along in
    let own = c.in_ok-challenges.ensures.represents in
    let own-lookup = c.args.lookup.now in
    let elements : map (λ v. v.items) c.deref.result.now ≡ own-lookup.elements =
    ap (λ l. map (λ v. v.items) l) c.deref.ensures.value ∙ ap (λ (w : Written g.row.AB-F.Denot). w.elements) c.lookup.view_is in
    let counts : c.deref-2.result.now ≡ own-lookup.multiplicities =
    c.deref-2.ensures.value ∙ ap (λ (w : Written g.row.AB-F.Denot). w.multiplicities) c.lookup.view_is in
    let same : pair_up (map (map tree_of) (map (λ v. v.items) c.deref.result.now)) (map tree_count c.deref-2.result.now) ≡ sent (read own-lookup) =
    ap (λ l. pair_up (map (map tree_of) l) (map tree_count c.deref-2.result.now)) elements ∙ ap (λ l. pair_up (map (map tree_of) own-lookup.elements) (map tree_count l)) counts in
    let parts =
    subst (λ (ss : List (Sent (Tree g.row.AB-F.Denot))). ArePartsOf (g.AB.ExtensionBuilder.represents_ext c.fraction_parts.new.builder) g.AB.F.RingCore.ring (base_tree c.args.index) (beta_tree c.args.index) c.in_ok-parts.parts ss)
    same (c.in_ok-parts.ensures.represents _ _ own.0 own.1) in
    let difference = c.in_ok-difference.ensures.represents _ _ parts.0 parts.1 in
    IfOk-weaker _ _ _
    (λ _ q. then _ _ _ [] _ [] [] c.lookup_challenges.ensures.appends
    (then _ _ _ [] _ [] [] c.fraction_parts.ensures.appends
    (then _ _ _ [] _ [] [] c.scaled_less.ensures.appends q)))
    (c.assert_zero_ext.ensures.appends _ difference)
