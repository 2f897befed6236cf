use Rattle.std.proofs.Common.{[]}
use Rattle.p3_lookup.proofs.emission.lookup_challenges.Goals as goal

pub returns-in_err-beta-clause-appends : goal.returns-in_err-beta-clause-appends
returns-in_err-beta-clause-appends g c = g.met.AB.AirBuilder.appends_along _ _ _ [] [] [] [] c.ext_cell.ensures.appends c.ext_cell-2.ensures.appends

pub returns-clause-appends : goal.returns-clause-appends
returns-clause-appends g c = g.met.AB.AirBuilder.appends_along _ _ _ [] [] [] [] c.ext_cell.ensures.appends c.ext_cell-2.ensures.appends

pub returns-clause-represents : goal.returns-clause-represents
returns-clause-represents g c =
    let past = g.met.AB.ExtensionBuilder.persists_ext _ _ (g.met.AB.AirBuilder.appends_later _ _ _ _ c.ext_cell-2.ensures.appends) in
    (past _ _ c.in_ok-base.ensures.represents, c.in_ok-beta.ensures.represents)
