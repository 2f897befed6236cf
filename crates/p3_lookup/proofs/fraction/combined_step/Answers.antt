use Rattle.std.proofs.Common.{[]}
use Rattle.p3_lookup.proofs.fraction.combined_step.Goals as goal

pub returns-in_err-others-clause-appends : goal.returns-in_err-others-clause-appends
returns-in_err-others-clause-appends g c = g.met.AB.AirBuilder.appends_along _ _ _ [] [] [] [] c.lifted.ensures.appends c.mul_ext.ensures.appends

pub returns-clause-appends : goal.returns-clause-appends
returns-clause-appends g c =
    let then = g.met.AB.AirBuilder.appends_along in
    then _ _ _ [] [] [] [] c.lifted.ensures.appends (then _ _ _ [] [] [] [] c.mul_ext.ensures.appends c.add_ext.ensures.appends)

pub returns-clause-represents : goal.returns-clause-represents
returns-clause-represents g c b s hb hs =
    let B = g.met.AB.AirBuilder in
    let X = g.met.AB.ExtensionBuilder in
    let past = X.persists_ext _ _ (B.appends_later _ _ _ _ c.lifted.ensures.appends) in
    let first = X.persists_ext _ _ (B.appends_later _ _ _ _ c.mul_ext.ensures.appends) _ _ c.in_ok-first.ensures.represents in
    c.add_ext.ensures.represents _ _ first (c.in_ok-others.ensures.represents _ _ (past _ _ hb) (past _ _ hs))
