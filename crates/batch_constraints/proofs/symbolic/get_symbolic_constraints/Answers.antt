use Rattle.std.proofs.Common.{◌∙◌, ap, false, true}
use Rattle.air_core.specs.Recording.{trees_over}
use Rattle.p3_lookup.specs.Trees.{lookup_trees}
use Rattle.p3_lookup.specs.Written.{read_all}
use Rattle.batch_constraints.specs.Laws.Places.{over_base_are, over_extension_are}
use Rattle.batch_constraints.proofs.symbolic.get_symbolic_constraints.Goals as goal

pub returns-clause-base : goal.returns-clause-base
returns-clause-base g c =
    let us = lookup_trees g.F.RingCore.ring (read_all c.args.contexts.now) in
    c.in_ok-base.ensures.asserted ∙ (ap (trees_over false) c.in_ok-builder.ensures ∙ over_base_are (g.A.Air.trees c.args.air.now) us)

pub returns-clause-extension : goal.returns-clause-extension
returns-clause-extension g c =
    let us = lookup_trees g.F.RingCore.ring (read_all c.args.contexts.now) in
    c.in_ok-extension.ensures.asserted ∙ (ap (trees_over true) c.in_ok-builder.ensures ∙ over_extension_are (g.A.Air.trees c.args.air.now) us)
