use Rattle.std.proofs.Common.{[]}
use Rattle.p3_lookup.proofs.emission.with_column.Goals as goal

pub returns-clause-appends : goal.returns-clause-appends
returns-clause-appends g c = g.met.AB.AirBuilder.appends_along _ _ _ [] [] [] [] c.ext_cell.ensures.appends c.add_ext.ensures.appends

pub returns-clause-represents : goal.returns-clause-represents
returns-clause-represents g c s h =
    let past = g.met.AB.ExtensionBuilder.persists_ext _ _ (g.met.AB.AirBuilder.appends_later _ _ _ _ c.ext_cell.ensures.appends) in
    c.add_ext.ensures.represents _ _ (past _ _ h) c.in_ok-fraction.ensures.represents
