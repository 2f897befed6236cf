use Rattle.std.proofs.Common.{◌≡◌, ℕ, List, map, IfOk, subst}
use Rattle.air_core.specs.Degree.{greatest, multiple}
use Rattle.air_core.specs.Recording.{trees_at}
use Rattle.air_core.proofs.Asserted.{read_of_asserted}
use Rattle.air_core.proofs.recorder.InteractionSymbolicBuilder.largest_degree_multiple.Goals as goal

pub returns : goal.returns
returns g c =
    let nodes = c.self.inside.nodes.items in
    let asserted = c.self.inside.asserted.items in
    let P : List ℕ → Type 0 = λ ds. IfOk c.largest_degree.result (λ d. d ≡ greatest 0 ds) in
    let found : P (map (multiple c.args.t) (trees_at nodes asserted)) = rw (← c.deref.ensures.value, ← c.deref-2.ensures.value) c.largest_degree.ensures in
    rw (← c.self.view_is) (subst P (read_of_asserted (multiple c.args.t) nodes asserted) found)
