use Rattle.std.proofs.Common.{sym, subst}
use Rattle.batch_constraints.specs.BatchTrees.{AreLookupsOf}
use Rattle.batch_constraints.specs.Laws.Own.{own_lookups}
use Rattle.tool_shaped.proofs.room.own_lookups.Goals as goal

pub returns-clause-fit : goal.returns-clause-fit
returns-clause-fit g c =
    let d = g.A.BaseAir.declaration c.args.air.now in
    subst (AreLookupsOf d) (sym c.in_ok-lookups.ensures) (own_lookups d (g.A.Air.interactions c.args.air.now) (g.met.A.Air.interactions_read c.args.air.now))
