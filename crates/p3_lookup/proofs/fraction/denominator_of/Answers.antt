use Rattle.std.proofs.Common.{[]}
use Rattle.p3_lookup.proofs.fraction.denominator_of.Goals as goal

pub returns-clause-appends : goal.returns-clause-appends
returns-clause-appends g c = g.met.AB.AirBuilder.appends_along _ _ _ [] [] [] [] c.combined.ensures.appends c.sub_ext.ensures.appends

pub returns-clause-represents : goal.returns-clause-represents
returns-clause-represents g c a b ha hb =
    let past = g.met.AB.ExtensionBuilder.persists_ext _ _ (g.met.AB.AirBuilder.appends_later _ _ _ _ c.combined.ensures.appends) in
    c.sub_ext.ensures.represents _ _ (past _ _ ha) (c.in_ok-sum.ensures.represents b hb)
