use Rattle.std.proofs.lemmas.Result.{IfOk-weaker, on_err_weaker}
use Rattle.std.proofs.Common.{[], ◌∙◌}
use Rattle.air_core.specs.Laws.Represent.{holds_on_err}
use Rattle.air_core.specs.Asserting.{AssertsOne, ComputesBool}
use Rattle.air_core.proofs.builder.AirBuilder.assert_bool.Goals as goal

pub returns-clause-appends : goal.returns-clause-appends
returns-clause-appends g c t h =
    let B = g.met.Self.AirBuilder in
    let h1 = B.persists _ _ (B.appends_later _ _ _ _ c.constant.ensures.appends) _ _ h in
    let h2 = B.persists _ _ (B.appends_later _ _ _ _ c.sub.ensures.appends) _ _ h1 in
    let one = rw (c.ONE.ensures ∙ g.met.Self.F.RingCore.one_is) at c.in_ok-one.ensures.represents in
    IfOk-weaker _ _ _
    (λ _ p. B.appends_along _ _ _ [] _ [] [] c.constant.ensures.appends
    (B.appends_along _ _ _ [] _ [] [] c.sub.ensures.appends
    (B.appends_along _ _ _ [] _ [] [] c.mul.ensures.appends p)))
    (c.assert_zero.ensures.appends _ (c.in_ok-product.ensures.represents _ _ h2 (c.in_ok-less_one.ensures.represents _ _ h1 one)))

pub returns-in_err-less_one-clause-on_error : goal.returns-in_err-less_one-clause-on_error
returns-in_err-less_one-clause-on_error g c =
    holds_on_err _ (g.met.Self.AirBuilder.appends_along _ _ _ [] [] [] [] c.constant.ensures.appends c.sub.ensures.appends)

pub returns-in_err-product-clause-on_error : goal.returns-in_err-product-clause-on_error
returns-in_err-product-clause-on_error g c =
    let then = g.met.Self.AirBuilder.appends_along in
    holds_on_err _ (then _ _ _ [] [] [] [] c.constant.ensures.appends (then _ _ _ [] [] [] [] c.sub.ensures.appends c.mul.ensures.appends))

pub returns-clause-on_error : goal.returns-clause-on_error
returns-clause-on_error g c =
    let then = g.met.Self.AirBuilder.appends_along in
    on_err_weaker _
    (λ p. then _ _ _ [] [] [] [] c.constant.ensures.appends (then _ _ _ [] [] [] [] c.sub.ensures.appends (then _ _ _ [] [] [] [] c.mul.ensures.appends p)))
    c.assert_zero.ensures.on_error

pub returns-clause-asserts : goal.returns-clause-asserts
returns-clause-asserts g c =
    let B = g.Self.AirBuilder in
    let one = g.Self.F.RingCore.ring.one in
    let then = g.met.Self.AirBuilder.appends_along in
    let bool : ComputesBool B.represents B.computes one c.args.x c.mul.new.self c.in_ok-product.product = record {
      first = c.constant.new.self;
      second = c.sub.new.self;
      unit = c.in_ok-one.one;
      less_one = c.in_ok-less_one.less_one;
      unit_represents = rw (c.ONE.ensures ∙ g.met.Self.F.RingCore.one_is) at c.in_ok-one.ensures.represents;
      less_one_computed = c.in_ok-less_one.ensures.computes;
      product_computed = c.in_ok-product.ensures.computes;
    } in
    IfOk-weaker c.assert_zero.result
    (λ _. B.asserts c.mul.new.self c.in_ok-product.product c.assert_zero.new.self)
    (λ _. AssertsOne (λ m e. B.appends c.args.self.now m [] [] × ComputesBool B.represents B.computes one c.args.x m e) B.asserts c.assert_zero.new.self)
    (λ _ p. record {
      before = c.mul.new.self;
      expression = c.in_ok-product.product;
      given = (then _ _ _ [] [] [] [] c.constant.ensures.appends (then _ _ _ [] [] [] [] c.sub.ensures.appends c.mul.ensures.appends), bool);
      asserted = p;
    })
    c.assert_zero.ensures.asserts
