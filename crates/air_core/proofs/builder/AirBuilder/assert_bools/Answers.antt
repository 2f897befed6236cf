use Rattle.std.proofs.Common.{[], map, List, ◌∷◌, ◌++◌, ◌+◌, ◌<◌, length, take, ap, get_or, sym, ◌≡◌, ◌∙◌, subst, append-nil, arith}
use Rattle.std.proofs.lemmas.List.{take_more, take-map, map-append}
use Rattle.std.proofs.lemmas.Grind.{common_steps}
use Rattle.air_core.specs.Laws.Appending.{first_on_err}
use Rattle.air_core.specs.declared.cells.Cell.TheVariants.{FirstRow}
use Rattle.air_core.specs.Tree.{Tree, cell, bool_tree, over_base}
use Rattle.air_core.specs.Laws.Represent.{holds_on_err}
use Rattle.air_core.specs.Laws.Asserting.{asserts-more}
use Rattle.air_core.specs.Asserting.{AssertsOne, ComputesBool, AssertsEach, AssertsFirst}
use Rattle.air_core.proofs.builder.AirBuilder.assert_bools.Goals as goal

pub loop-x-preserved : goal.loop-x-preserved
loop-x-preserved g c =
    let B = g.met.Self.AirBuilder in
    let i = c.loop-x.x-index in (
      B.later_along _ _ _ c.loop-x.invariant.0 c.assert_bool.ensures.later,
      c.assert_bool.ensures.keeps_shape ∙ c.loop-x.invariant.1,
      λ ts h.
          let u : Tree g.row.Self-F.Denot = cell FirstRow in
          let lt : i < length c.args.xs.now = c.loop-x-test.true in
          let lt-2 : i < length ts = omega (arith, h.long) in
          let P : g.row.Self-Expr.Denot → Type 0 = λ x. g.Self.AirBuilder.represents c.args.self.now x (get_or ts i u) in
          let one = B.persists _ _ c.loop-x.invariant.0 _ _ (subst P (sym c.x-item.is) (h.each i c.x-item.result u lt)) in
          rw (take_more ts i u lt-2, map-append (bool_tree g.Self.F.RingCore.ring.one) (take i ts) (get_or ts i u ∷ []), map-append over_base (map (bool_tree g.Self.F.RingCore.ring.one) (take i ts)) (bool_tree g.Self.F.RingCore.ring.one (get_or ts i u) ∷ []))
          (B.appends_along _ _ _ _ _ [] []
          (c.loop-x.invariant.2 ts h)
          (c.in_ok-assert_bool.ensures.appends _ one)),
      (let lt : i < length c.args.xs.now = c.loop-x-test.true in
          let xs = c.args.xs.now in
          let step : g.row.Self.Denot → g.row.Self-Expr.Denot → g.row.Self.Denot → Type 0 = (λ a x b. AssertsOne (λ m e. g.Self.AirBuilder.appends a m [] [] × ComputesBool g.Self.AirBuilder.represents g.Self.AirBuilder.computes g.Self.F.RingCore.ring.one x m e) g.Self.AirBuilder.asserts b) in
          let taken : take (i + 1) xs ≡ take i xs ++ c.x-item.result ∷ [] = take_more xs i c.x-item.result lt ∙ ap (λ (y : g.row.Self-Expr.Denot). take i xs ++ y ∷ []) (sym c.x-item.is) in
          let P : List g.row.Self-Expr.Denot → Type 0 = λ ys. AssertsEach step ys c.args.self.now c.assert_bool.new.self in
          subst P (sym taken) (asserts-more step (take i xs) c.x-item.result c.args.self.now c.loop-x.self c.assert_bool.new.self c.loop-x.invariant.3 c.in_ok-assert_bool.ensures.asserts)),
    )

pub returns-clause-appends : goal.returns-clause-appends
returns-clause-appends g c ts h =
    let e : take c.loop-x.x-index ts ≡ ts = grind (arith, common_steps, h.long) in
    rw e at (c.loop-x.invariant.2 ts h)

pub returns-in_err-assert_bool-clause-on_error : goal.returns-in_err-assert_bool-clause-on_error
returns-in_err-assert_bool-clause-on_error g c ts h =
    let grown = rw append-nil at (g.met.Self.AirBuilder.appends_along _ _ _ _ [] [] [] (c.loop-x.invariant.2 ts h) c.in_err-assert_bool.ensures.on_error) in
    first_on_err g.Self.AirBuilder.appends _ _ (map over_base (map (bool_tree g.Self.F.RingCore.ring.one) ts)) [] _ c.loop-x.x-index 0 (rw (take-map, take-map) grown)

pub returns-clause-asserts : goal.returns-clause-asserts
returns-clause-asserts g c =
    let e : take c.loop-x.x-index c.args.xs.now ≡ c.args.xs.now = grind (arith, common_steps) in
    rw e at c.loop-x.invariant.3

pub returns-in_err-assert_bool-clause-some : goal.returns-in_err-assert_bool-clause-some
returns-in_err-assert_bool-clause-some g c =
    let step : g.row.Self.Denot → g.row.Self-Expr.Denot → g.row.Self.Denot → Type 0 = (λ a x b. AssertsOne (λ m e. g.Self.AirBuilder.appends a m [] [] × ComputesBool g.Self.AirBuilder.represents g.Self.AirBuilder.computes g.Self.F.RingCore.ring.one x m e) g.Self.AirBuilder.asserts b) in
    let some : AssertsFirst (λ a b. g.Self.AirBuilder.appends a b [] []) step c.args.xs.now c.args.self.now c.assert_bool.new.self = record {
      count = c.loop-x.x-index;
      within = omega (arith, c.loop-x-test.true);
      before = c.loop-x.self;
      asserted = c.loop-x.invariant.3;
      quiet_after = c.in_err-assert_bool.ensures.on_error;
    } in
    holds_on_err _ some
