use Rattle.std.proofs.Common.{length, sym, subst, arith}
use Rattle.air_core.specs.Recording.{Recording}
use Rattle.air_core.specs.Symbolic.{OperandsBelow}
use Rattle.air_core.specs.Laws.Recording.{recording-push, appends-push, represents-push}
use Rattle.air_core.proofs.recorder.InteractionSymbolicBuilder.push.Goals as goal

pub invariant_of-self-2 : goal.invariant_of-self-2
invariant_of-self-2 g c =
    let s = c.self.inside in
    let r : Recording g.row.F.Denot = record { layout = s.layout; nodes = s.nodes.items; asserted = s.asserted.items; interactions = s.interactions.items } in
    let P : Recording g.row.F.Denot → Type 0 = λ v. OperandsBelow (length v.nodes) c.args.node in
    rw c.in_ok-push.ensures.items (recording-push r c.args.node c.self.invariant (subst P (sym c.self.view_is) c.requires))

pub returns-clause-appends : goal.returns-clause-appends
returns-clause-appends g c =
    let s = c.self.inside in
    let r : Recording g.row.F.Denot = record { layout = s.layout; nodes = s.nodes.items; asserted = s.asserted.items; interactions = s.interactions.items } in
    rw (c.in_ok-push.ensures.items, ← c.self.view_is) (appends-push r c.args.node c.self.invariant)

pub returns-clause-represents : goal.returns-clause-represents
returns-clause-represents g c =
    let nodes = c.self.inside.nodes in
    rw (c.in_ok-push.ensures.items, ← c.self.view_is)
    (represents-push nodes.items c.args.node c.len-place.result (omega (arith, nodes.ok.0, c.len-place.ensures)))
