use Rattle.std.proofs.Common.{[], sym, subst, rules}
use Rattle.air_core.specs.Shape.{Shape, ReadsSendable}
use Rattle.air_core.specs.Symbolic.{tree_at}
use Rattle.air_core.specs.Laws.Symbolic.{node_is}
use Rattle.p3_lookup.proofs.expression.+expression_at.Goals as goal

pub cell-requires : goal.cell-requires
cell-requires g t c =
    let here = node_is c.args.nodes.now c.args.place _ _ c.requires.ordered c.requires.within c.in-Base.is in
    let reads = rw here at c.requires.reads in
    reads.0

pub expression_at-requires : goal.expression_at-requires
expression_at-requires g t c κs within =
    let here = node_is c.args.nodes.now c.args.place _ _ c.requires.ordered c.requires.within c.in-Sum.is in
    let reads = rw here.2 at c.requires.reads in
    let earlier = here.0 in
    let left = reads.0 in
    search rules

pub expression_at-requires-in-Sum : goal.expression_at-requires-in-Sum
expression_at-requires-in-Sum g t c κs within =
    let here = node_is c.args.nodes.now c.args.place _ _ c.requires.ordered c.requires.within c.in-Sum.is in
    let reads = rw here.2 at c.requires.reads in
    let earlier = here.1 in
    let P : Shape → Type 0 = λ s. ReadsSendable s (tree_at c.args.nodes.now c.in-Sum.y) in
    let right = subst P (sym c.expression_at.ensures.keeps_shape) reads.1 in
    search rules

pub returns-in_err-right-in-Sum-clause-appends : goal.returns-in_err-right-in-Sum-clause-appends
returns-in_err-right-in-Sum-clause-appends g t c =
    g.met.AB.AirBuilder.appends_along _ _ _ [] [] [] [] c.expression_at.ensures.appends c.expression_at-in-Sum.ensures.appends

pub returns-in_ok-right-in-Sum-clause-appends : goal.returns-in_ok-right-in-Sum-clause-appends
returns-in_ok-right-in-Sum-clause-appends g t c =
    let then = g.met.AB.AirBuilder.appends_along in
    then _ _ _ [] [] [] [] c.expression_at.ensures.appends (then _ _ _ [] [] [] [] c.expression_at-in-Sum.ensures.appends c.add.ensures.appends)

pub returns-in_ok-right-in-Sum-clause-represents : goal.returns-in_ok-right-in-Sum-clause-represents
returns-in_ok-right-in-Sum-clause-represents g t c =
    let B = g.met.AB.AirBuilder in
    let here = node_is c.args.nodes.now c.args.place _ _ c.requires.ordered c.requires.within c.in-Sum.is in
    let left = B.persists _ _ (B.appends_later _ _ _ _ c.expression_at-in-Sum.ensures.appends) _ _ c.in_ok-left-in-Sum.ensures.represents in
    rw here.2 (c.add.ensures.represents _ _ left c.in_ok-right-in-Sum.ensures.represents)

pub expression_at-requires-in-Difference : goal.expression_at-requires-in-Difference
expression_at-requires-in-Difference g t c κs within =
    let here = node_is c.args.nodes.now c.args.place _ _ c.requires.ordered c.requires.within c.in-Difference.is in
    let reads = rw here.2 at c.requires.reads in
    let earlier = here.0 in
    let left = reads.0 in
    search rules

pub expression_at-requires-in-Difference-2 : goal.expression_at-requires-in-Difference-2
expression_at-requires-in-Difference-2 g t c κs within =
    let here = node_is c.args.nodes.now c.args.place _ _ c.requires.ordered c.requires.within c.in-Difference.is in
    let reads = rw here.2 at c.requires.reads in
    let earlier = here.1 in
    let P : Shape → Type 0 = λ s. ReadsSendable s (tree_at c.args.nodes.now c.in-Difference.y) in
    let right = subst P (sym c.expression_at-in-Difference.ensures.keeps_shape) reads.1 in
    search rules

pub returns-in_err-right-in-Difference-clause-appends : goal.returns-in_err-right-in-Difference-clause-appends
returns-in_err-right-in-Difference-clause-appends g t c =
    g.met.AB.AirBuilder.appends_along _ _ _ [] [] [] [] c.expression_at-in-Difference.ensures.appends c.expression_at-in-Difference-2.ensures.appends

pub returns-in_ok-right-in-Difference-clause-appends : goal.returns-in_ok-right-in-Difference-clause-appends
returns-in_ok-right-in-Difference-clause-appends g t c =
    let then = g.met.AB.AirBuilder.appends_along in
    then _ _ _ [] [] [] [] c.expression_at-in-Difference.ensures.appends (then _ _ _ [] [] [] [] c.expression_at-in-Difference-2.ensures.appends c.sub.ensures.appends)

pub returns-in_ok-right-in-Difference-clause-represents : goal.returns-in_ok-right-in-Difference-clause-represents
returns-in_ok-right-in-Difference-clause-represents g t c =
    let B = g.met.AB.AirBuilder in
    let here = node_is c.args.nodes.now c.args.place _ _ c.requires.ordered c.requires.within c.in-Difference.is in
    let left = B.persists _ _ (B.appends_later _ _ _ _ c.expression_at-in-Difference-2.ensures.appends) _ _ c.in_ok-left-in-Difference.ensures.represents in
    rw here.2 (c.sub.ensures.represents _ _ left c.in_ok-right-in-Difference.ensures.represents)

pub expression_at-requires-in-Product : goal.expression_at-requires-in-Product
expression_at-requires-in-Product g t c κs within =
    let here = node_is c.args.nodes.now c.args.place _ _ c.requires.ordered c.requires.within c.in-Product.is in
    let reads = rw here.2 at c.requires.reads in
    let earlier = here.0 in
    let left = reads.0 in
    search rules

pub expression_at-requires-in-Product-2 : goal.expression_at-requires-in-Product-2
expression_at-requires-in-Product-2 g t c κs within =
    let here = node_is c.args.nodes.now c.args.place _ _ c.requires.ordered c.requires.within c.in-Product.is in
    let reads = rw here.2 at c.requires.reads in
    let earlier = here.1 in
    let P : Shape → Type 0 = λ s. ReadsSendable s (tree_at c.args.nodes.now c.in-Product.y) in
    let right = subst P (sym c.expression_at-in-Product.ensures.keeps_shape) reads.1 in
    search rules

pub returns-in_err-right-in-Product-clause-appends : goal.returns-in_err-right-in-Product-clause-appends
returns-in_err-right-in-Product-clause-appends g t c =
    g.met.AB.AirBuilder.appends_along _ _ _ [] [] [] [] c.expression_at-in-Product.ensures.appends c.expression_at-in-Product-2.ensures.appends

pub returns-in_ok-right-in-Product-clause-appends : goal.returns-in_ok-right-in-Product-clause-appends
returns-in_ok-right-in-Product-clause-appends g t c =
    let then = g.met.AB.AirBuilder.appends_along in
    then _ _ _ [] [] [] [] c.expression_at-in-Product.ensures.appends (then _ _ _ [] [] [] [] c.expression_at-in-Product-2.ensures.appends c.mul.ensures.appends)

pub returns-in_ok-right-in-Product-clause-represents : goal.returns-in_ok-right-in-Product-clause-represents
returns-in_ok-right-in-Product-clause-represents g t c =
    let B = g.met.AB.AirBuilder in
    let here = node_is c.args.nodes.now c.args.place _ _ c.requires.ordered c.requires.within c.in-Product.is in
    let left = B.persists _ _ (B.appends_later _ _ _ _ c.expression_at-in-Product-2.ensures.appends) _ _ c.in_ok-left-in-Product.ensures.represents in
    rw here.2 (c.mul.ensures.represents _ _ left c.in_ok-right-in-Product.ensures.represents)

pub returns-in-Constant-clause-represents : goal.returns-in-Constant-clause-represents
returns-in-Constant-clause-represents g t c =
    let here = node_is c.args.nodes.now c.args.place _ _ c.requires.ordered c.requires.within c.in-Constant.is in
    rw here c.constant.ensures.represents

pub returns-in-Base-clause-represents : goal.returns-in-Base-clause-represents
returns-in-Base-clause-represents g t c =
    let here = node_is c.args.nodes.now c.args.place _ _ c.requires.ordered c.requires.within c.in-Base.is in
    rw here c.cell.ensures.represents

pub returns-in-Extension-clause-represents : goal.returns-in-Extension-clause-represents
returns-in-Extension-clause-represents g t c =
    let here = node_is c.args.nodes.now c.args.place _ _ c.requires.ordered c.requires.within c.in-Extension.is in
    absurd (rw here at c.requires.reads)
