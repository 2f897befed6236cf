use Rattle.p3_lookup.specs.Trees.{lookup_trees}
use Rattle.p3_lookup.specs.Written.{read_all}
use Rattle.batch_constraints.specs.Laws.Places.{places_in}
use Rattle.batch_constraints.proofs.symbolic.get_constraint_layout.Goals as goal

pub returns : goal.returns
returns g c =
    let us = lookup_trees g.F.RingCore.ring (read_all c.args.contexts.now) in
    let b = c.in_ok-builder.builder in
    let k = c.constraint_layout in
    places_in k.result b.nodes b.asserted (g.A.Air.trees c.args.air.now) us c.in_ok-builder.ensures k.ensures.base k.ensures.extension
