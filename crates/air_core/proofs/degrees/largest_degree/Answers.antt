use Rattle.std.proofs.Common.{◌≡◌, ℕ, ◌<◌, List, length, map, get_or, false, max, ◌∙◌, arith}
use Rattle.std.proofs.lemmas.Grind.{get_or_default_zero}
use Rattle.std.proofs.lemmas.List.{get_or_default}
use Rattle.air_core.specs.declared.recorded.Assertion.{Assertion}
use Rattle.air_core.specs.Degree.{degree}
use Rattle.air_core.specs.Symbolic.{tree_at}
use Rattle.air_core.specs.Laws.Greatest.{greatest_next, joined}
use Rattle.air_core.proofs.NodeDegrees.{degree-at, degrees-long}
use Rattle.air_core.proofs.degrees.largest_degree.Goals as goal

pub index-requires : goal.index-requires
index-requires g c =
    let f = g.D.CellDegrees.base c.args.cells.now in
    let e = g.D.CellDegrees.extension c.args.cells.now in
    let inside = c.requires.asserted c.loop-assertion.assertion-index (record { place = 0; in_extension = false }) c.loop-assertion-test.true in
    let long = degrees-long f e c.args.nodes.now c.in_ok-degrees.degrees.items c.in_ok-degrees.ensures in
    omega (arith, inside, long, c.in_ok-degrees.degrees.ok.0)

pub loop-assertion-preserved : goal.loop-assertion-preserved
loop-assertion-preserved g c =
    let f = g.D.CellDegrees.base c.args.cells.now in
    let e = g.D.CellDegrees.extension c.args.cells.now in
    let i = c.loop-assertion.assertion-index in
    let xs = c.args.asserted.now in
    let ds = c.in_ok-degrees.degrees.items in
    let none : Assertion = record { place = 0; in_extension = false } in
    let a : Assertion = get_or xs i none in
    let inside : a.place < length c.args.nodes.now = c.requires.asserted i none c.loop-assertion-test.true in
    let long : length ds ≡ length c.args.nodes.now = degrees-long f e c.args.nodes.now ds c.in_ok-degrees.ensures in
    let here : get_or ds a.place c.index.result.now ≡ get_or ds a.place 0 = get_or_default_zero ds a.place c.index.result.now (omega (arith, inside, long)) in
    let next = greatest_next (λ (b : Assertion). tree_at c.args.nodes.now b.place) (degree f e) 0 c.loop-assertion.largest i xs a
    c.loop-assertion-test.true (get_or_default xs i none a c.loop-assertion-test.true) c.loop-assertion.invariant in
    let top : c.max-largest.result ≡ max c.loop-assertion.largest c.index.result.now = c.max-largest.ensures in
    let is : c.index.result.now ≡ degree f e (tree_at c.args.nodes.now a.place) = c.index.ensures ∙ (here ∙ degree-at f e c.args.nodes.now a.place ds inside c.in_ok-degrees.ensures) in
    joined c.max-largest.result c.loop-assertion.largest c.index.result.now (degree f e (tree_at c.args.nodes.now a.place)) _ top is next
