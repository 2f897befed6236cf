use Rattle.std.proofs.Common.{◌≡◌, ℕ, List, ◌∷◌, [], ◌++◌, map, take, ◌+◌, ◌∙◌, subst, sym}
use Rattle.air_core.specs.Degree.{degree, node_degree}
use Rattle.air_core.specs.Symbolic.{trees_after}
use Rattle.air_core.proofs.NodeDegrees.{operands-known, degrees-more}
use Rattle.air_core.proofs.degrees.degrees_in_order.Goals as goal

pub loop-place-init : goal.loop-place-init
unfolding trees_after
loop-place-init g c = c.in_ok-degrees.ensures.items

pub degree_of_node-degree-requires : goal.degree_of_node-degree-requires
degree_of_node-degree-requires g c =
    operands-known (g.D.CellDegrees.base c.args.cells.now) (g.D.CellDegrees.extension c.args.cells.now)
    c.args.nodes.now c.loop-place.place c.index-nodes-place.result c.deref.result.now c.requires c.loop-place-test.true c.index-nodes-place.is
    (c.deref.ensures.value ∙ c.loop-place.invariant)

pub loop-place-preserved : goal.loop-place-preserved
loop-place-preserved g c =
    let f = g.D.CellDegrees.base c.args.cells.now in
    let e = g.D.CellDegrees.extension c.args.cells.now in
    let n = c.index-nodes-place.result in
    let ds = c.loop-place.degrees.items in
    let more = degrees-more f e c.args.nodes.now c.loop-place.place n ds c.requires c.loop-place-test.true c.index-nodes-place.is c.loop-place.invariant in
    let P : List ℕ → Type 0 = λ es. c.degree_of_node-degree.result ≡ node_degree f e es n in
    let degree-is = subst P c.deref.ensures.value c.degree_of_node-degree.ensures in
    let Q : ℕ → Type 0 = λ d. ds ++ d ∷ [] ≡ map (degree f e) (trees_after [] (take (c.loop-place.place + 1) c.args.nodes.now)) in
    c.in_ok-push.ensures.items ∙ subst Q (sym degree-is) more
