use Rattle.std.proofs.Common.{[]}
use Rattle.p3_lookup.proofs.fraction.with_tuple.Goals as goal

pub returns-in_err-times-clause-appends : goal.returns-in_err-times-clause-appends
returns-in_err-times-clause-appends g c = g.met.AB.AirBuilder.appends_along _ _ _ [] [] [] [] c.denominator_of.ensures.appends c.lifted.ensures.appends

pub returns-clause-appends : goal.returns-clause-appends
returns-clause-appends g c =
    let then = g.met.AB.AirBuilder.appends_along in
    then _ _ _ [] [] [] [] c.denominator_of.ensures.appends (then _ _ _ [] [] [] [] c.lifted.ensures.appends c.with_term.ensures.appends)

pub returns-clause-represents : goal.returns-clause-represents
returns-clause-represents g c a b k n ha hb hk hn =
    let B = g.met.AB.AirBuilder in
    let X = g.met.AB.ExtensionBuilder in
    let one = X.persists_ext _ _ (B.appends_later _ _ _ _ c.denominator_of.ensures.appends) in
    let two = X.persists_ext _ _ (B.appends_later _ _ _ _ c.lifted.ensures.appends) in
    let denominator = two _ _ (c.in_ok-denominator.ensures.represents a b ha hb) in
    c.with_term.ensures.represents _ _ _ _ c.in_ok-times.ensures.represents denominator (two _ _ (one _ _ hk)) (two _ _ (one _ _ hn))
