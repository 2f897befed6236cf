use Rattle.std.proofs.Common.{◌≡◌, ◌<◌, ◌-◌, List, [], length, map, get_or, ap, ◌∙◌, subst, arith}
use Rattle.std.proofs.lemmas.Grind.{get_or_default_zero}
use Rattle.air_core.specs.declared.node.Node.{Node}
use Rattle.air_core.specs.Degree.{degree}
use Rattle.air_core.specs.Symbolic.{trees_after}
use Rattle.air_core.proofs.NodeDegrees.{degree-at, degrees-long}
use Rattle.air_core.proofs.degrees.root_degree.Goals as goal

pub index-requires : goal.index-requires
index-requires g c =
    let f = g.D.CellDegrees.base c.args.cells.now in
    let e = g.D.CellDegrees.extension c.args.cells.now in
    let ds = c.in-Ok.degrees.items in
    let P : List (Node g.row.F.Denot) → Type 0 = λ l. ds ≡ map (degree f e) (trees_after [] l) in
    let long = degrees-long f e c.args.nodes.now.items ds (subst P c.deref.ensures.value c.in-Ok.ensures) in
    omega (arith, long, c.in-Ok.degrees.ok.0, c.args.nodes.now.ok.0, c.len-root.ensures, c.requires.rooted)

pub returns-in-Ok : goal.returns-in-Ok
returns-in-Ok g c =
    let f = g.D.CellDegrees.base c.args.cells.now in
    let e = g.D.CellDegrees.extension c.args.cells.now in
    let ds = c.in-Ok.degrees.items in
    let nodes = c.args.nodes.now.items in
    let P : List (Node g.row.F.Denot) → Type 0 = λ l. ds ≡ map (degree f e) (trees_after [] l) in
    let are : P nodes = subst P c.deref.ensures.value c.in-Ok.ensures in
    let long : length ds ≡ length nodes = degrees-long f e nodes ds are in
    let root : c.len-root.result - 1 ≡ length nodes - 1 = omega (arith, c.args.nodes.now.ok.0, c.len-root.ensures) in
    let within : length nodes - 1 < length nodes = omega (arith, c.requires.rooted) in
    let last = degree-at f e nodes (length nodes - 1) ds within are in
    let here : get_or ds (c.len-root.result - 1) c.index.result.now ≡ get_or ds (c.len-root.result - 1) 0 =
    get_or_default_zero ds (c.len-root.result - 1) c.index.result.now (omega (arith, root, within, long)) in
    c.index.ensures ∙ (here ∙ (ap (λ i. get_or ds i 0) root ∙ last))
