use Rattle.std.proofs.Common.{◌≡◌, List, [], map, false, IfOk, IsOk, subst}
use Rattle.air_core.specs.Tree.{Tree}
use Rattle.air_core.specs.Symbolic.{tree_of}
use Rattle.air_core.specs.Recording.{trees_at, asserted_in}
use Rattle.air_core.specs.Laws.Places.{trees_over_is}
use Rattle.air_core.proofs.Chosen.{none_asserted}
use Rattle.air_core.proofs.recorder.InteractionSymbolicBuilder.base_constraints.Goals as goal

pub returns-clause-asserted : goal.returns-clause-asserted
returns-clause-asserted g c =
    let nodes = c.self.inside.nodes.items in
    let asserted = c.self.inside.asserted.items in
    let P : List (Tree g.row.F.Denot) → Type 0 = λ ts. IfOk c.expressions.result (λ v. map tree_of v.items ≡ ts) in
    let found : P (trees_at nodes (asserted_in false asserted)) = rw (← c.deref.ensures.value, ← c.deref-2.ensures.value) c.expressions.ensures.trees in
    rw (← c.self.view_is) (subst P (trees_over_is nodes false asserted) found)

pub returns-clause-none : goal.returns-clause-none
returns-clause-none g c =
    let nodes = c.self.inside.nodes.items in
    let asserted = c.self.inside.asserted.items in
    let found : asserted_in false asserted ≡ [] → IsOk c.expressions.result = rw (← c.deref-2.ensures.value) c.expressions.ensures.none in
    rw (← c.self.view_is) (λ e. found (none_asserted nodes false asserted e))
