use Rattle.std.proofs.Common.{sym, subst}
use Rattle.batch_constraints.specs.BatchTrees.{AreLookupsOf}
use Rattle.batch_constraints.specs.Laws.Own.{own_lookups}
use Rattle.cases_verifier.proofs.soundness.lookups_of_air.Goals as goal

pub returns : goal.returns
returns g c =
    let d = g.A.BaseAir.declaration c.args.air.now in
    subst (AreLookupsOf d) (sym c.in_ok-own.ensures) (own_lookups d (g.A.Air.interactions c.args.air.now) (g.met.A.Air.interactions_read c.args.air.now))
