use Rattle.std.proofs.Common.{List, All, map, get_or, length, sym, ◌∙◌, subst}
use Rattle.air_core.specs.declared.node.Node.{Node}
use Rattle.air_core.specs.Recording.{Recording, IsRecording}
use Rattle.air_core.specs.Shape.{declared_shape, ReadsSendable}
use Rattle.air_core.specs.Symbolic.{tree_of}
use Rattle.air_core.specs.Laws.Reads.{not_true, interaction_reads}
use Rattle.air_core.proofs.recorder.InteractionSymbolicBuilder.interaction_reads_declared.Goals as goal

pub returns-then-not-all_sendable : goal.returns-then-not-all_sendable
returns-then-not-all_sendable g c d =
    let s = declared_shape (g.A.BaseAir.declaration c.args.air.now) in
    let ns = c.args.self.now.nodes in
    let p = get_or c.args.self.now.interactions c.args.index d in
    let P : Recording g.row.F.Denot → Type 0 = λ r. IsRecording r in
    let Q : List (List (Node g.row.F.Denot)) → Type 0 = λ l. All (ReadsSendable s) (map tree_of l) in
    let below = (subst P c.self.view_is c.self.invariant).interactions c.args.index d c.requires in
    let e = interaction_reads s ns (length ns) p below (map tree_of c.in_ok-fields.fields.items) (map tree_of c.in_ok-counts.counts.items) (c.in_ok-fields.ensures d) (c.in_ok-counts.ensures d) in
    ((λ h. absurd (not_true h)), λ h. sym c.if-not-all_sendable.true ∙ c.all_sendable.ensures.1 (subst Q (sym c.deref.ensures.value) (e.1 h).0))

pub returns : goal.returns
returns g c d =
    let s = declared_shape (g.A.BaseAir.declaration c.args.air.now) in
    let ns = c.args.self.now.nodes in
    let p = get_or c.args.self.now.interactions c.args.index d in
    let P : Recording g.row.F.Denot → Type 0 = λ r. IsRecording r in
    let Q : List (List (Node g.row.F.Denot)) → Type 0 = λ l. All (ReadsSendable s) (map tree_of l) in
    let below = (subst P c.self.view_is c.self.invariant).interactions c.args.index d c.requires in
    let e = interaction_reads s ns (length ns) p below (map tree_of c.in_ok-fields.fields.items) (map tree_of c.in_ok-counts.counts.items) (c.in_ok-fields.ensures d) (c.in_ok-counts.ensures d) in
    let fields = subst Q c.deref.ensures.value (c.all_sendable.ensures.0 c.if-not-all_sendable.false) in
    ((λ h. e.0 (fields, subst Q c.deref-2.ensures.value (c.all_sendable-2.ensures.0 h))), λ h. c.all_sendable-2.ensures.1 (subst Q (sym c.deref-2.ensures.value) (e.1 h).1))
