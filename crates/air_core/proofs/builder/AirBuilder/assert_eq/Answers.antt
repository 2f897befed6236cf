use Rattle.std.proofs.Common.{[]}
use Rattle.std.proofs.lemmas.Result.{IfOk-weaker, on_err_weaker}
use Rattle.air_core.specs.Tree.{difference}
use Rattle.air_core.specs.Operation.{minus}
use Rattle.air_core.specs.Asserting.{AssertsOne}
use Rattle.air_core.proofs.builder.AirBuilder.assert_eq.Goals as goal

pub returns-clause-appends : goal.returns-clause-appends
returns-clause-appends g c s t hs ht =
    IfOk-weaker _ _ _
    (λ _ p. g.met.Self.AirBuilder.appends_along _ _ _ _ _ _ _ c.sub.ensures.appends p)
    (c.assert_zero.ensures.appends (difference s t) (c.in_ok-difference.ensures.represents s t hs ht))

pub returns-clause-on_error : goal.returns-clause-on_error
returns-clause-on_error g c =
    on_err_weaker _ (λ p. g.met.Self.AirBuilder.appends_along _ _ _ [] [] [] [] c.sub.ensures.appends p) c.assert_zero.ensures.on_error

pub returns-clause-asserts : goal.returns-clause-asserts
returns-clause-asserts g c =
    let B = g.Self.AirBuilder in
    IfOk-weaker c.assert_zero.result
    (λ _. B.asserts c.sub.new.self c.in_ok-difference.difference c.assert_zero.new.self)
    (λ _. AssertsOne (λ m e. B.appends c.args.self.now m [] [] × B.computes c.args.self.now minus c.args.x c.args.y m e) B.asserts c.assert_zero.new.self)
    (λ _ p. record {
      before = c.sub.new.self;
      expression = c.in_ok-difference.difference;
      given = (c.sub.ensures.appends, c.in_ok-difference.ensures.computes);
      asserted = p;
    })
    c.assert_zero.ensures.asserts
