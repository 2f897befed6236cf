use Rattle.std.proofs.Common.{rules}
use Rattle.air_core.specs.Laws.Symbolic.{node_is}
use Rattle.air_core.proofs.degrees.+degree_at.Goals as goal

pub returns-in-Constant : goal.returns-in-Constant
returns-in-Constant g t c =
    let here = node_is c.args.nodes.now c.args.place _ _ c.requires.ordered c.requires.within c.in-Constant.is in
    rw here (search rules)

pub returns-in-Base : goal.returns-in-Base
returns-in-Base g t c =
    let here = node_is c.args.nodes.now c.args.place _ _ c.requires.ordered c.requires.within c.in-Base.is in
    rw here (search rules)

pub returns-in-Extension : goal.returns-in-Extension
returns-in-Extension g t c =
    let here = node_is c.args.nodes.now c.args.place _ _ c.requires.ordered c.requires.within c.in-Extension.is in
    rw here (search rules)

pub degree_at-left-requires : goal.degree_at-left-requires
degree_at-left-requires g t c κs within =
    let here = node_is c.args.nodes.now c.args.place _ _ c.requires.ordered c.requires.within c.in-Sum.is in
    let earlier = here.0 in
    search rules

pub degree_at-requires : goal.degree_at-requires
degree_at-requires g t c κs within =
    let here = node_is c.args.nodes.now c.args.place _ _ c.requires.ordered c.requires.within c.in-Sum.is in
    let earlier = here.1 in
    search rules

pub returns-in-Sum : goal.returns-in-Sum
returns-in-Sum g t c =
    let here = node_is c.args.nodes.now c.args.place _ _ c.requires.ordered c.requires.within c.in-Sum.is in
    rw here.2 (search rules)

pub degree_at-left-requires-in-Difference : goal.degree_at-left-requires-in-Difference
degree_at-left-requires-in-Difference g t c κs within =
    let here = node_is c.args.nodes.now c.args.place _ _ c.requires.ordered c.requires.within c.in-Difference.is in
    let earlier = here.0 in
    search rules

pub degree_at-requires-in-Difference : goal.degree_at-requires-in-Difference
degree_at-requires-in-Difference g t c κs within =
    let here = node_is c.args.nodes.now c.args.place _ _ c.requires.ordered c.requires.within c.in-Difference.is in
    let earlier = here.1 in
    search rules

pub returns-in-Difference : goal.returns-in-Difference
returns-in-Difference g t c =
    let here = node_is c.args.nodes.now c.args.place _ _ c.requires.ordered c.requires.within c.in-Difference.is in
    rw here.2 (search rules)

pub degree_at-left-requires-in-Product : goal.degree_at-left-requires-in-Product
degree_at-left-requires-in-Product g t c κs within =
    let here = node_is c.args.nodes.now c.args.place _ _ c.requires.ordered c.requires.within c.in-Product.is in
    let earlier = here.0 in
    search rules

pub degree_at-requires-in-Product : goal.degree_at-requires-in-Product
degree_at-requires-in-Product g t c κs within =
    let here = node_is c.args.nodes.now c.args.place _ _ c.requires.ordered c.requires.within c.in-Product.is in
    let earlier = here.1 in
    search rules

pub returns-in-Product : goal.returns-in-Product
returns-in-Product g t c =
    let here = node_is c.args.nodes.now c.args.place _ _ c.requires.ordered c.requires.within c.in-Product.is in
    rw here.2 (search rules)
