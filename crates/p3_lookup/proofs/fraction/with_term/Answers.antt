use Rattle.std.proofs.Common.{[]}
use Rattle.p3_lookup.proofs.fraction.with_term.Goals as goal

pub returns-in_err-others-clause-appends : goal.returns-in_err-others-clause-appends
returns-in_err-others-clause-appends g c = g.met.AB.AirBuilder.appends_along _ _ _ [] [] [] [] c.mul_ext.ensures.appends c.mul_ext-2.ensures.appends

pub returns-in_err-numerator-clause-appends : goal.returns-in_err-numerator-clause-appends
returns-in_err-numerator-clause-appends g c =
    let then = g.met.AB.AirBuilder.appends_along in
    then _ _ _ [] [] [] [] c.mul_ext.ensures.appends (then _ _ _ [] [] [] [] c.mul_ext-2.ensures.appends c.add_ext.ensures.appends)

pub returns-in_err-common-clause-appends : goal.returns-in_err-common-clause-appends
returns-in_err-common-clause-appends g c =
    let then = g.met.AB.AirBuilder.appends_along in
    then _ _ _ [] [] [] [] c.mul_ext.ensures.appends (then _ _ _ [] [] [] [] c.mul_ext-2.ensures.appends (then _ _ _ [] [] [] [] c.add_ext.ensures.appends c.mul_ext-3.ensures.appends))

pub returns-clause-appends : goal.returns-clause-appends
returns-clause-appends g c =
    let then = g.met.AB.AirBuilder.appends_along in
    then _ _ _ [] [] [] [] c.mul_ext.ensures.appends (then _ _ _ [] [] [] [] c.mul_ext-2.ensures.appends (then _ _ _ [] [] [] [] c.add_ext.ensures.appends c.mul_ext-3.ensures.appends))

pub returns-clause-represents : goal.returns-clause-represents
returns-clause-represents g c m d k n hm hd hk hn =
    let B = g.met.AB.AirBuilder in
    let X = g.met.AB.ExtensionBuilder in
    let one = X.persists_ext _ _ (B.appends_later _ _ _ _ c.mul_ext.ensures.appends) in
    let two = X.persists_ext _ _ (B.appends_later _ _ _ _ c.mul_ext-2.ensures.appends) in
    let three = X.persists_ext _ _ (B.appends_later _ _ _ _ c.add_ext.ensures.appends) in
    let four = X.persists_ext _ _ (B.appends_later _ _ _ _ c.mul_ext-3.ensures.appends) in
    let own = two _ _ (c.in_ok-own.ensures.represents m k hm hk) in
    let others = c.in_ok-others.ensures.represents d n (one _ _ hd) (one _ _ hn) in (
      c.in_ok-common.ensures.represents d k (three _ _ (two _ _ (one _ _ hd))) (three _ _ (two _ _ (one _ _ hk))),
      four _ _ (c.in_ok-numerator.ensures.represents _ _ own others),
    )
